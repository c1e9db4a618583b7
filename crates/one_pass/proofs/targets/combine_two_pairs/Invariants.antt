use Rattle.std.proofs.Common.{◌≤◌, ◌-◌, Some}
use Rattle.one_pass.specs.Syndromes.{HasSums}
use Rattle.one_pass.proofs.targets.combine_two_pairs.Given as goal

abbrev pub invariant-each : goal.invariant-each
invariant-each l = record {
  inside : l.done ≤ l.width;
  first : HasSums l.lists (Some l.one) l.done l.first;
  second : HasSums l.lists (Some l.two) l.done l.second;
  third : HasSums l.lists (Some l.three) l.done l.third;
  fourth : HasSums l.lists (Some l.four) l.done l.fourth;
}

abbrev pub decreases-each : goal.decreases-each
decreases-each l = l.width - l.done
