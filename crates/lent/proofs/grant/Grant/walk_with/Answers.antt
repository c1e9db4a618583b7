use Rattle.std.proofs.Common.{◌≡◌, ◌<◌, ◌^◌, ap, rules, arith}
use Rattle.sealed.specs.declared.value.Sealed.{Sealed}
use Rattle.lent.specs.declared.grant.Grant.{Grant}
use Rattle.lent.proofs.Joining.{cut_bytes}
use Rattle.lent.proofs.Giving.{few_parts}
use Rattle.lent.proofs.grant.Grant.walk_with.Goals as goal

pub returns-clause-few : goal.returns-clause-few
returns-clause-few c =
    let g : Grant = c.args.self.now in
    few_parts g.sealed.value.code g.sealed.value.width g.start g.len g.sealed.value.shaped.wide (let same : c.deref.result.now.len ≡ g.sealed.value.len = ap (λ (s : Sealed). s.len) c.deref.ensures in let in_range : c.deref.result.now.len < 2 ^ 64 = search rules in omega (arith, g.inside, same, in_range))

pub returns-clause-bytes : goal.returns-clause-bytes
returns-clause-bytes c b long =
    let g : Grant = c.args.self.now in
    cut_bytes g.sealed.value.code g.sealed.value.width g.start g.len b g.sealed.value.shaped.wide (omega (arith, g.inside, long))
