use Rattle.std.proofs.Common.{Some, ap, sym, ◌∙◌}
use Rattle.std.specs.Option.{option_map}
use Rattle.sealed.proofs.packed.one_more.Goals as goal

pub returns-in_ok-try_clone-in-Some : goal.returns-in_ok-try_clone-in-Some
returns-in_ok-try_clone-in-Some c = ap (λ p. Some p) c.in_ok-try_clone-in-Some.ensures ∙ ap (option_map (λ a. a.value)) (sym c.in-Some.is)
