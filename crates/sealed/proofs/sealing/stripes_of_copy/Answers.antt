use Rattle.std.proofs.Common.{◌≡◌, ℕ, ◌∙◌, List, [], sym, subst}
use Rattle.sealed.specs.Packed.{packed, AreWhole}
use Rattle.sealed.proofs.Packing.{packed_alike}
use Rattle.sealed.proofs.Whole.{packed_whole}
use Rattle.sealed.proofs.sealing.stripes_of_copy.Goals as goal

pub returns-clause-ok : goal.returns-clause-ok
returns-clause-ok c =
    let code = c.args.code in
    let w : ℕ = c.get-w.result in
    let b : List ℕ = c.args.bytes.now in
    let blob : List ℕ = c.in_ok-blob.blob.items in
    let parities : List ℕ = c.in_ok-blob.parities.items in
    let count : ℕ = c.args.count in
    let wide : w ≡ c.args.width = c.get-w.ensures.value in
    let whole : AreWhole code c.args.width b count (packed code c.args.width blob [] parities count) =
    subst (λ n. AreWhole code n b count (packed code n blob [] parities count)) wide (packed_whole code w b blob [] parities count c.requires.bytes c.in_ok-blob.ensures.packed) in
    subst (AreWhole code c.args.width b count)
    (sym (c.from_packed.ensures ∙ c.in_ok-packed.ensures ∙ packed_alike code c.args.width count c.own.ensures (c.own-2.ensures ∙ c.new.ensures.items) c.own-3.ensures)) whole
