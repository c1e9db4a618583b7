use Rattle.std.proofs.Common.{◌≡◌, ◌≤◌, length, take}
use Rattle.std.specs.List.{filter}
use Rattle.lrc_code.specs.Code.{is_lost}
use Rattle.lrc_code.proofs.lost_set.LostSet.list_in.Given as goal

abbrev pub invariant-loop-f : goal.invariant-loop-f
invariant-loop-f l = record {
  list : l.lost.items ≡ filter (is_lost l.self) (take l.f-index l.f-items);
  few : length l.lost.items ≤ l.f-index;
}
