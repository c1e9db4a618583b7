use Rattle.std.proofs.Common.{◌≡◌, ◌<◌, ◌+◌, ◌∙◌, ◌∷◌, List, ℕ, Option, sym, ap, length, arith}
use Rattle.sealed.specs.declared.value.Sealed.{Sealed}
use Rattle.lent.specs.declared.grant.Grant.{Grant}
use Rattle.lent.specs.declared.part.Part.{Part}
use Rattle.lent.specs.Spans.{seen, span_of, spans_of}
use Rattle.lent.proofs.Joining.{ahead_at, step_spans}
use Rattle.lent.proofs.spans.SpansIterator.next.Goals as goal

-- the spans behind the next one
behind : goal.After-span_at → List (Part × Option (List ℕ))
behind c =
    let g : Grant = c.self.inside.grant.now in spans_of g.sealed.value (ahead_at g.sealed.value g.start (g.start + g.len) c.self.inside.end (c.self.inside.at + 1)).parts

steps : (c : goal.After-span_at) → c.args.self.now ≡ seen c.span_at.result ∷ behind c
unfolding behind
steps c =
    let g : Grant = c.self.inside.grant.now in
    sym c.self.view_is
    ∙ step_spans g.sealed.value g.start (g.start + g.len) c.self.inside.end c.self.inside.at (omega (arith, c.self.invariant)) c.part_at-part.result c.part_at-part.ensures.value
    _ (c.span_at.ensures ∙ ap (λ (s : Sealed). span_of s c.part_at-part.result) c.deref.ensures)

fewer : (c : goal.After-span_at) → length (behind c) < length c.args.self.now
fewer c = let e = ap length (steps c) in omega arith

pub returns-clause-steps : goal.returns-clause-steps
unfolding behind
returns-clause-steps c = steps c

pub returns-clause-goes : goal.returns-clause-goes
unfolding behind
returns-clause-goes c = record { on = λ _. (tt, tt, fewer c); keeps = tt; rests = λ _. tt }
