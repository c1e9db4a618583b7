use Rattle.std.proofs.Common.{Some, ap, sym, ◌∙◌}
use Rattle.std.specs.Option.{option_map}
use Rattle.sealed.specs.declared.patches.Patches.{Patches}
use Rattle.sealed.proofs.table.shared_patches.Goals as goal

pub returns-in_ok-try_clone-in-Some : goal.returns-in_ok-try_clone-in-Some
returns-in_ok-try_clone-in-Some c = ap (λ (p : Patches). Some p.fragments) c.in_ok-try_clone-in-Some.ensures ∙ ap (option_map (λ a. a.value.fragments)) (sym c.in-Some.is)
