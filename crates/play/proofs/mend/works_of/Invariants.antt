use Rattle.std.proofs.Common.{◌≡◌, ◌≤◌, ◌<◌, ◌+◌, ◌^◌, ◌++◌, [], vec_len, length}
use Rattle.std.specs.Prelude.{vec_capacity}
use Rattle.std.specs.Vec.Iter.{into_iter_items, into_iter_len}
use Rattle.rounds.specs.Pools.{passes_of}
use Rattle.play.specs.Mends.{AreForRow, AreMenders, given_to_all}
use Rattle.play.proofs.mend.works_of.Given as goal

abbrev pub invariant-loop-pass : goal.invariant-loop-pass
invariant-loop-pass l = record {
  many : vec_len l.works ≡ length l.yielded;
  room : length l.yielded + into_iter_len l.pass-iterator ≤ vec_capacity l.works;
  passes : passes_of l.works.items ≡ l.yielded;
  menders : AreMenders l.plan.value.items.items l.tickets.value l.works.items;
  rows : AreForRow l.row l.works.items;
  tickets : l.drawer.tickets ≡ l.tickets.value;
  none : l.drawer.drawn ≡ [];
  shares : l.drawer.allowance + given_to_all l.works.items ≡ 2 ^ 40;
  half : 0 < length l.yielded → l.drawer.allowance ≤ 2 ^ 39;
  all : l.fn.passes.items ≡ l.yielded ++ into_iter_items l.pass-iterator;
}
