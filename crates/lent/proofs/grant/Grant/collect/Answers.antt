use Rattle.std.proofs.Common.{◌+◌, ◌≤◌, ◌∙◌, inl, inr, length, sym, ap, subst, arith}
use Rattle.std.proofs.lemmas.Bool.{cases_lt, false≢true}
use Rattle.sealed.specs.declared.value.Sealed.{Sealed}
use Rattle.sealed.specs.Sealed.{StandsFor}
use Rattle.lent.specs.Cut.{cut as cut_of}
use Rattle.lent.specs.Walk.{HasAbsent}
use Rattle.sealed.proofs.Packing.{on_err}
use Rattle.lent.proofs.Collecting.{Collects, one_more, at_end, all_bytes, absent_ahead, one_part_more}
use Rattle.lent.proofs.grant.Grant.collect.Goals as goal

pub loop-walk-preserved : goal.loop-walk-preserved
loop-walk-preserved c =
    let gives = rw c.in-Some.is at c.in_ok-piece.ensures.ok in
    let joins = rw c.in-Some.is at c.in_ok-piece.ensures.joins in
    record {
      collects = subst (Collects c.walk-walk.result c.next_piece.new.self) (sym c.in_ok-push.ensures.ok)
          (one_more c.walk-walk.result c.loop-walk.walk c.next_piece.new.self c.loop-walk.pieces.items c.in-Some.piece c.loop-walk.invariant.collects gives joins);
      room = omega (arith, c.loop-walk.invariant.room, c.push.ensures.capacity);
    }

pub returns-clause-joined : goal.returns-clause-joined
returns-clause-joined c b lost stands =
    let here : StandsFor c.walk-walk.result.sealed b lost = subst (λ (s : Sealed). StandsFor s b lost) (sym c.walk-walk.ensures.sealed) stands in
    let none = at_end c.loop-walk.walk c.next_piece.new.self c.in_ok-piece.field-0 c.in_ok-piece.ensures.ok c.in_default.not-Some in
    all_bytes c.walk-walk.result c.loop-walk.walk c.loop-walk.pieces.items c.loop-walk.invariant.collects none b lost here ∙ c.walk-walk.ensures.bytes b (sym stands.length_is)

pub returns-in_err-piece-clause-err : goal.returns-in_err-piece-clause-err
returns-in_err-piece-clause-err c =
    let absent = absent_ahead c.walk-walk.result c.loop-walk.walk c.loop-walk.pieces.items c.loop-walk.invariant.collects c.in_err-piece.ensures.refused in
    on_err c.from_residual.result (inl (subst (λ (s : Sealed). HasAbsent s (cut_of s.code s.width c.args.self.now.start c.args.self.now.len)) c.walk-walk.ensures.sealed
    (subst (HasAbsent c.walk-walk.result.sealed) (c.walk-walk.ensures.parts ∙ ap (λ (s : Sealed). cut_of s.code s.width c.args.self.now.start c.args.self.now.len) (sym c.walk-walk.ensures.sealed)) absent)))

pub returns-in_err-push-clause-err : goal.returns-in_err-push-clause-err
returns-in_err-push-clause-err c =
    let gives = rw c.in-Some.is at c.in_ok-piece.ensures.ok in
    let more = one_part_more c.walk-walk.result c.loop-walk.walk c.next_piece.new.self c.loop-walk.pieces.items c.in-Some.piece c.loop-walk.invariant.collects gives in
    let no_room : c.loop-walk.pieces.capacity ≤ length c.loop-walk.pieces.items = elim (cases_lt (length c.loop-walk.pieces.items) c.loop-walk.pieces.capacity) [
      | inl inside ↦ let fits : length c.loop-walk.pieces.items + 1 ≤ c.loop-walk.pieces.capacity = omega arith in absurd (false≢true (c.in_err-push.ensures.succeeds fits))
      | inr past ↦ past
    ] in
    on_err c.from_residual-in_err-push.result (inr (omega (arith, no_room, c.loop-walk.invariant.room, more, ap length c.walk-walk.ensures.parts)))
