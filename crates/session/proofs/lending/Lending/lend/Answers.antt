use Rattle.std.proofs.Common.{◌≡◌, ◌<◌, [], ◌∷◌, length, get_or, subst, ap, sym, arith, ◌∙◌}
use Rattle.std.proofs.lemmas.List.{length-map, get_or-map}
use Rattle.lent.specs.Granted.{cut_of}
use Rattle.lent.specs.Spans.{span_of, spans_of, seen}
use Rattle.session.specs.LentFrom.{pieces_of, lists_of, chosen}
use Rattle.session.proofs.Lendings.{IsLending, at_first, one_lent, counted, aligned}
use Rattle.session.proofs.lending.Lending.lend.Goals as goal

pub loop-at-init : goal.loop-at-init
loop-at-init c =
    let g = c.self.inside.grant in let vs = c.self.inside.rebuilt.items in
    let spans = spans_of g.sealed.value (cut_of g) in
    subst (λ ahead. IsLending (pieces_of spans (lists_of vs)) (lists_of vs) ahead 0 c.args.target.now c.args.target.now) (sym c.spans-spans.ensures)
    (at_first spans (lists_of vs) c.args.target.now (length-map (cut_of g) (span_of g.sealed.value) ∙ sym (aligned g vs c.self.invariant.0) ∙ sym (length-map vs (λ v. v.items))))

pub loop-at-preserved : goal.loop-at-preserved
loop-at-preserved c =
    let l = c.loop-at in let g = c.self.inside.grant in let rebuilt = lists_of c.self.inside.rebuilt.items in let pieces = pieces_of (spans_of g.sealed.value (cut_of g)) rebuilt in
    let span = seen c.in-Some.span in
    let before : IsLending pieces rebuilt (span ∷ c.next.new.self) l.at c.args.target.now l.target =
    subst (λ spans. IsLending pieces rebuilt spans l.at c.args.target.now l.target) c.in-Some.ensures.steps l.invariant in
    let vs = c.self.inside.rebuilt.items in let inside : l.at < length vs = omega (arith, l.invariant.left, length-map vs (λ v. v.items), before.left) in
    let bytes : c.choose.result.now ≡ chosen span (get_or rebuilt l.at []) =
    c.choose.ensures ∙ ap (chosen span) (c.as_slice.ensures.value ∙ ap (λ v. v.items) c.index.ensures ∙ sym (get_or-map (λ v. v.items) vs l.at c.index.result.now [] inside)) in
    one_lent pieces rebuilt span c.next.new.self l.at c.args.target.now l.target _ before c.loop-at-test.true bytes

pub returns-after-loop-at-clause-count : goal.returns-after-loop-at-clause-count
returns-after-loop-at-clause-count c =
    let g = c.self.inside.grant in let is = c.loop-at.invariant in let rebuilt = c.self.inside.rebuilt.items in
    omega (arith, is.left, is.long, is.same, c.loop-at-test.false, counted g.sealed.value (cut_of g) rebuilt (aligned g rebuilt c.self.invariant.0), ap length c.self.view_is, length-map rebuilt (λ v. v.items))

pub returns-in_default-clause-count : goal.returns-in_default-clause-count
returns-in_default-clause-count c =
    let g = c.self.inside.grant in let is = c.loop-at.invariant in let rebuilt = c.self.inside.rebuilt.items in
    omega (arith, is.left, is.long, is.same, ap length c.in_default.ensures.steps.0, counted g.sealed.value (cut_of g) rebuilt (aligned g rebuilt c.self.invariant.0), ap length c.self.view_is, length-map rebuilt (λ v. v.items))
