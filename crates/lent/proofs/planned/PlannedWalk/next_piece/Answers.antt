use Rattle.std.proofs.Common.{◌≡◌, ◌+◌, List, None, ap, subst, sym, refl, arith}
use Rattle.sealed.specs.declared.value.Sealed.{Sealed}
use Rattle.lent.specs.declared.grant.Grant.{Grant}
use Rattle.sealed.specs.Stripes.{fragment_at}
use Rattle.lent.specs.declared.part.Part.{Part}
use Rattle.lent.specs.Pieces.{IsPieceOf}
use Rattle.lent.specs.Walk.{IsAbsent, bytes_ahead}
use Rattle.lent.proofs.Giving.{nothing_ahead, next_part, planned_gives, planned_joins}
use Rattle.lent.proofs.planned.PlannedWalk.next_piece.Goals as goal

pub returns-then-self-grant-clause-ok : goal.returns-then-self-grant-clause-ok
returns-then-self-grant-clause-ok c =
    let g : Grant = c.args.self.now.grant.now in
    (nothing_ahead g c.args.self.now.given (omega (arith, g.first, g.last, c.if-self-grant.true)), refl)

pub returns-then-self-grant-clause-end : goal.returns-then-self-grant-clause-end
returns-then-self-grant-clause-end c b =
    let g : Grant = c.args.self.now.grant.now in
    ap (λ (parts : List Part). bytes_ahead (record { sealed = g.sealed.value; parts = parts }) b) (nothing_ahead g c.args.self.now.given (omega (arith, g.first, g.last, c.if-self-grant.true)))

pub returns-in-Err-clause-refused : goal.returns-in-Err-clause-refused
returns-in-Err-clause-refused c =
    let g : Grant = c.args.self.now.grant.now in
    subst (IsAbsent g.sealed.value)
    (sym (next_part g c.args.self.now.given (g.met.start + c.args.self.now.given) (omega (arith, g.first)) (omega (arith, g.first, g.last, c.if-self-grant.false)) c.part_at-part.result c.part_at-part.ensures.value))
    (subst (λ (s : Sealed). fragment_at s.stripes c.part_at-part.result.stripe c.part_at-part.result.fragment ≡ None) c.deref.ensures c.in-Err.ensures.err)

pub returns-clause-ok : goal.returns-clause-ok
returns-clause-ok c =
    let g : Grant = c.args.self.now.grant.now in
    let is : IsPieceOf g.sealed.value c.part_at-part.result c.in-Ok.piece = subst (λ (s : Sealed). IsPieceOf s c.part_at-part.result c.in-Ok.piece) c.deref.ensures c.in-Ok.ensures.ok in
    planned_gives g c.args.self.now.given (g.met.start + c.args.self.now.given) (omega (arith, g.first)) (omega (arith, g.first, g.last, c.if-self-grant.false)) c.part_at-part.result c.part_at-part.ensures.value c.in-Ok.piece is

pub returns-clause-joins : goal.returns-clause-joins
returns-clause-joins c =
    let g : Grant = c.args.self.now.grant.now in
    let is : IsPieceOf g.sealed.value c.part_at-part.result c.in-Ok.piece = subst (λ (s : Sealed). IsPieceOf s c.part_at-part.result c.in-Ok.piece) c.deref.ensures c.in-Ok.ensures.ok in
    planned_joins g c.args.self.now.given (g.met.start + c.args.self.now.given) (omega (arith, g.first)) (omega (arith, g.first, g.last, c.if-self-grant.false)) c.part_at-part.result c.part_at-part.ensures.value c.in-Ok.piece is
    c.part_at-part.ensures.stripe c.part_at-part.ensures.fragment c.part_at-part.ensures.range.1
