use Rattle.std.proofs.Common.{◌≡◌, ℕ, ◌∙◌, List, [], take, drop, sym, subst}
use Rattle.sealed.specs.Layout.{stripe_size}
use Rattle.sealed.specs.Packed.{packed, AreWhole}
use Rattle.sealed.proofs.Whole.{packed_whole, joined_packed}
use Rattle.sealed.proofs.sealing.stripe_of_copy.Goals as goal

pub returns-clause-ok : goal.returns-clause-ok
returns-clause-ok c =
    let code = c.args.code in
    let w : ℕ = c.get-w.result in
    let b : List ℕ = c.args.bytes.now in
    let joined : List ℕ = c.in_ok-joined.joined.items in
    let wide : w ≡ c.args.width = c.get-w.ensures.value in
    let made = c.in_ok-joined.ensures in
    let whole : AreWhole code w b 1 (packed code w (take (stripe_size code w) joined) [] (drop (stripe_size code w) joined) 1) =
    packed_whole code w b (take (stripe_size code w) joined) [] (drop (stripe_size code w) joined) 1 c.requires.bytes (joined_packed code w b joined made.padded made.long made.parities) in
    let whole : AreWhole code c.args.width b 1 (packed code c.args.width (take (stripe_size code c.args.width) joined) [] (drop (stripe_size code c.args.width) joined) 1) =
    subst (λ n. AreWhole code n b 1 (packed code n (take (stripe_size code n) joined) [] (drop (stripe_size code n) joined) 1)) wide whole in
    subst (AreWhole code c.args.width b 1) (sym (c.from_packed.ensures ∙ c.joined-packed.ensures)) whole
