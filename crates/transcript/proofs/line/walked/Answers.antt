use Rattle.std.proofs.Common.{rules, ◌+◌, ◌++◌, ◌≡◌, slice_range, List, ℕ, append-nil, ap, arith, sym, ◌∙◌}
use Rattle.std.specs.Prelude.{not, count_by}
use Rattle.lent.specs.Cut.{cut}
use Rattle.lent.specs.Planned.{ahead_of}
use Rattle.lent.specs.declared.part.Part.{Part}
use Rattle.transcript.specs.Lines.{is_there}
use Rattle.transcript.proofs.Walked.{read_on}
use Rattle.transcript.proofs.line.walked.Goals as goal

pub loop-reading-preserved : goal.loop-reading-preserved
loop-reading-preserved c =
    let grant = c.args.grant.now in
    let s = grant.sealed.value in
    let inv = c.loop-reading.invariant in
    let gives = rw c.in-Some.is at c.in_ok-piece.ensures.ok in
    let joins = rw c.in-Some.is at c.in_ok-piece.ensures.joins in
    record {
      so_far = read_on s (λ b. slice_range b grant.start (grant.start + grant.len)) (cut s.code s.width grant.start grant.len) c.loop-reading.reading c.take_in.new.self
          (ahead_of c.loop-reading.walk) (ahead_of c.next_piece.new.self) c.in-Some.piece inv.so_far gives joins c.in_ok-take_in.ensures;
      same = search rules;
      more = search rules;
    }

pub returns-clause-ok : goal.returns-clause-ok
returns-clause-ok c =
    let s = c.args.grant.now.sealed.value in
    let so_far = c.loop-reading.invariant.so_far in
    let done = c.loop-reading.reading.bytes.items in
    let none = (rw c.in_default.is at c.in_ok-piece.ensures.ok).0 in
    let end = rw c.in_default.is at c.in_ok-piece.ensures.end in
    let no_lent : count_by (is_there s) (ahead_of c.loop-reading.walk).parts ≡ 0 = ap (count_by (is_there s)) none in
    let no_built : count_by (λ p. not (is_there s p)) (ahead_of c.loop-reading.walk).parts ≡ 0 = ap (count_by (λ (p : Part). not (is_there s p))) none in
    record {
      version = so_far.version;
      lent = omega (arith, no_lent, so_far.lent);
      built = omega (arith, no_built, so_far.built);
      bytes = λ b lost stands. sym (so_far.split.1 b lost stands ∙ ap (λ (x : List ℕ). done ++ x) (end b) ∙ append-nil done);
    }
