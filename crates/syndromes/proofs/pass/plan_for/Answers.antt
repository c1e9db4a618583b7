use Rattle.syndromes.proofs.Taken.{takes_only}
use Rattle.syndromes.proofs.pass.plan_for.Goals as goal

pub returns-clause-plan : goal.returns-clause-plan
returns-clause-plan c =
    let f = c.args.formulas in
    let second = c.is_taken in
    let third = c.is_taken-2 in
    let fourth = c.is_taken-3 in
    record {
      first = takes_only f.first second.result third.result fourth.result second.ensures.first third.ensures.first fourth.ensures.first;
      second = takes_only f.second second.result third.result fourth.result second.ensures.second third.ensures.second fourth.ensures.second;
      third = takes_only f.third second.result third.result fourth.result second.ensures.third third.ensures.third fourth.ensures.third;
      fourth = takes_only f.fourth second.result third.result fourth.result second.ensures.fourth third.ensures.fourth fourth.ensures.fourth;
    }
