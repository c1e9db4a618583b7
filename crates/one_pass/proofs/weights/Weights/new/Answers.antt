use Rattle.std.proofs.Common.{◌≡◌, get_or}
use Rattle.kernels.proofs.GroupLemmas.{each_of_four}
use Rattle.one_pass.specs.declared.weights.Weights.{Weights}
use Rattle.one_pass.specs.Weights.{weight_in}
use Rattle.one_pass.proofs.weights.Weights.new.Goals as goal

pub returns : goal.returns
returns c =
    let made : Weights = record { first = c.new.result; second = c.new-2.result; third = c.new-3.result; fourth = c.new-4.result } in
    each_of_four (λ e. weight_in made e ≡ get_or c.args.factors.now e 0) c.new.ensures c.new-2.ensures c.new-3.ensures c.new-4.ensures
