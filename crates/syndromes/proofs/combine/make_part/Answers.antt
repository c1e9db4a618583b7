use Rattle.std.proofs.Common.{◌<◌, ◌+◌, ℕ, bit_xor, map, get_or, sym, ap, ◌∙◌, subst}
use Rattle.kernels.specs.Lists.{combined, bytes_at}
use Rattle.kernels.proofs.GroupLemmas.{source_is}
use Rattle.syndromes.specs.Formulas.{addend}
use Rattle.one_pass.proofs.Units.{unit_combined}
use Rattle.syndromes.proofs.combine.make_part.Goals as goal

pub returns-in-Some : goal.returns-in-Some
returns-in-Some c k l =
    let e : ℕ = c.in-Some.e in
    let plain = c.in-Some.ensures in
    let f = c.args.formula.now in
    let at : ℕ = c.args.at in
    let s : ℕ → ℕ = bytes_at (map (λ s. s.now) c.args.syndromes.now) k in
    let is = ap (λ xs. get_or xs k 0) (source_is c.args.syndromes.now e) in
    let small : s e < 256 = subst (λ x. x < 256) is (c.make_plainly.ensures.bytes k) in
    c.make_plainly.ensures.made k l
    ∙ ap (λ x. bit_xor (bit_xor (bit_xor x (addend f.third c.args.third.now (at + k))) (addend f.second c.args.second.now (at + k))) (addend f.first c.args.first.now (at + k)))
    (is ∙ sym (ap (λ fs. combined fs s) plain.1 ∙ unit_combined s e plain.0 small))
