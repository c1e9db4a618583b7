use Rattle.std.proofs.Common.{◌≡◌, ◌+◌, ◌-◌, ◌≤◌, ℕ, [], ◌∷◌, length, ap, sym, subst, ◌∙◌, arith}
use borrow.Rule.Slice.PartMut.{put_mid}
use Rattle.lent.specs.Pieces.{bytes_in_piece}
use Rattle.sealed.proofs.Packing.{on_err}
use Rattle.lent.proofs.Collecting.{at_end}
use Rattle.session.specs.CopyOf.{lent_of, built_of}
use Rattle.session.specs.declared.copying.Copied.{Copied}
use Rattle.session.proofs.CopiedPieces.{HasCopied, IsWalk, fits_now, counts_now, lent_piece, built_piece, long_still, copied, lacks, one_more}
use Rattle.session.proofs.copying.copy_pieces.Goals.{in-Lent, in-Built, After-next_piece, After-bytes-bytes, Joined-piece}
use Rattle.session.proofs.copying.copy_pieces.Goals as goal

walked : (c : After-next_piece) → IsWalk c.args.grant.now c.walk-walk.result × (length c.loop-walk.target ≡ c.args.grant.now.len)
walked c =
    let e = c.walk-walk.ensures in
    (record { sealed_is = e.sealed; parts_are = e.parts; bytes = e.bytes }, c.loop-walk.invariant.long ∙ c.requires.length)

pub returns-in_err-piece-clause-err : goal.returns-in_err-piece-clause-err
returns-in_err-piece-clause-err c =
    let l = c.loop-walk in
    let w = walked (goal.at.returns-in_err-piece-clause-err c).After-next_piece in
    on_err c.from_residual.result (lacks c.args.grant.now c.walk-walk.result w.0 l.walk l.target l.at l.copied.lent l.copied.built l.invariant.copies w.1 c.in_err-piece.ensures.refused)

-- the piece fits, and so do the numbers
fits : (c : After-bytes-bytes) → (c.loop-walk.at + length c.bytes-bytes.result.now ≤ length c.loop-walk.target) × (c.loop-walk.copied.lent + c.loop-walk.copied.built ≡ c.loop-walk.at)
fits c =
    let l = c.loop-walk in
    let g = c.args.grant.now in
    let e = c.walk-walk.ensures in
    let walk : IsWalk g c.walk-walk.result = record { sealed_is = e.sealed; parts_are = e.parts; bytes = e.bytes } in
    let long : length l.target ≡ g.len = l.invariant.long ∙ c.requires.length in
    let joins = rw c.in-Some.is at c.in_ok-piece.ensures.joins in (
      fits_now g c.walk-walk.result l.walk c.next_piece.new.self l.target l.at l.copied.lent l.copied.built c.in-Some.piece c.bytes-bytes.result.now walk l.invariant.copies long c.requires.stands joins c.bytes-bytes.ensures,
      counts_now g c.walk-walk.result l.walk l.target l.at l.copied.lent l.copied.built walk l.invariant.copies long,
    )

pub slice_bounds-copy_from_slice-end : goal.slice_bounds-copy_from_slice-end
slice_bounds-copy_from_slice-end c = (fits (goal.at.slice_bounds-copy_from_slice-end c).After-bytes-bytes).0

pub overflow_add-copied : goal.overflow_add-copied
overflow_add-copied c = let f = fits (goal.at.overflow_add-copied c).After-bytes-bytes in record { fits = omega (arith, f.0, f.1, c.loop-walk.auto.target) }

pub overflow_add-copied-in-Built : goal.overflow_add-copied-in-Built
overflow_add-copied-in-Built c = let f = fits (goal.at.overflow_add-copied-in-Built c).After-bytes-bytes in record { fits = omega (arith, f.0, f.1, c.loop-walk.auto.target) }

-- one more piece was copied
kept : (c : Joined-piece) → c.loop-walk.at + length c.bytes-bytes.result.now ≤ length c.loop-walk.target
    → HasCopied c.walk-walk.result c.next_piece.new.self (put_mid c.loop-walk.at (c.loop-walk.at + length c.bytes-bytes.result.now - c.loop-walk.at) c.loop-walk.target c.copy_from_slice.new.self) (c.loop-walk.at + length c.bytes-bytes.result.now) c.match-piece.copied.lent c.match-piece.copied.built
    × (length (put_mid c.loop-walk.at (c.loop-walk.at + length c.bytes-bytes.result.now - c.loop-walk.at) c.loop-walk.target c.copy_from_slice.new.self) ≡ length c.args.target.now)
kept c f =
    let l = c.loop-walk in
    let gives = rw c.in-Some.is at c.in_ok-piece.ensures.ok in
    let joins = rw c.in-Some.is at c.in_ok-piece.ensures.joins in
    let n : ℕ = length c.bytes-bytes.result.now in
    let copied = c.match-piece.copied in
    let ys_are = c.copy_from_slice.ensures.after ∙ c.bytes-bytes.ensures in
    let n_is : n ≡ length c.copy_from_slice.new.self = ap length (sym c.copy_from_slice.ensures.after) in
    let m : n ≡ length (bytes_in_piece c.in-Some.piece) = ap length c.bytes-bytes.ensures in
    let parts : (copied.lent ≡ l.copied.lent + lent_of (c.in-Some.piece ∷ [])) × (copied.built ≡ l.copied.built + built_of (c.in-Some.piece ∷ [])) = elim c.match-piece.branch [
      | in-Lent w ↦ let p = lent_piece c.in-Some.piece _ w.in-Lent.is in let k = w.copied-is in
          (omega (arith, ap (λ (x : Copied). x.lent) k, p.0, m), omega (arith, ap (λ (x : Copied). x.built) k, p.1))
      | in-Built w ↦ let p = built_piece c.in-Some.piece _ w.in-Built.is in let k = w.copied-is in
          (omega (arith, ap (λ (x : Copied). x.lent) k, p.0), omega (arith, ap (λ (x : Copied). x.built) k, p.1, m))
    ] in
    let at_n : n ≡ l.at + n - l.at = omega arith in (
      subst (λ (k : ℕ). HasCopied c.walk-walk.result c.next_piece.new.self (put_mid l.at k l.target c.copy_from_slice.new.self) (l.at + n) copied.lent copied.built) at_n
          (one_more c.walk-walk.result l.walk c.next_piece.new.self l.target c.copy_from_slice.new.self l.at n l.copied.lent l.copied.built copied.lent copied.built c.in-Some.piece
          l.invariant.copies gives joins ys_are n_is f parts.0 parts.1),
      subst (λ (k : ℕ). length (put_mid l.at k l.target c.copy_from_slice.new.self) ≡ length c.args.target.now) at_n (long_still l.target c.copy_from_slice.new.self l.at n n_is f ∙ l.invariant.long),
    )

pub loop-walk-preserved-after-piece : goal.loop-walk-preserved-after-piece
loop-walk-preserved-after-piece c =
    let steps = goal.at.loop-walk-preserved-after-piece c in
    let k = kept steps.Joined-piece (fits steps.After-bytes-bytes).0 in
    record { copies = k.0; long = k.1 }

pub loop-walk-preserved : goal.loop-walk-preserved
loop-walk-preserved c =
    let steps = goal.at.loop-walk-preserved c in
    let k = kept steps.Joined-piece (fits steps.After-bytes-bytes).0 in
    record { copies = k.0; long = k.1 }

pub returns-clause-copy : goal.returns-clause-copy
returns-clause-copy c =
    let l = c.loop-walk in
    let w = walked (goal.at.returns-clause-copy c).After-next_piece in
    let s = c.requires.stands in
    copied c.args.grant.now c.walk-walk.result w.0 l.walk l.target l.at l.copied.lent l.copied.built l.invariant.copies w.1 s.0 s.1 s.2 (at_end l.walk c.next_piece.new.self c.in_ok-piece.field-0 c.in_ok-piece.ensures.ok c.in_default.not-Some)
