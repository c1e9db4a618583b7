use Rattle.std.proofs.Common.{◌≡◌}
use Rattle.std.specs.List.{All}
use Rattle.fragment_files.proofs.choice.choose.Given as goal

abbrev pub invariant-loop-source : goal.invariant-loop-source
invariant-loop-source l = record {
  header : l.set.header.set ≡ l.best.header.set;
  same : l.set.key ≡ l.best.key;
  all : All (λ source. source.key ≡ l.best.key) l.set.sources.items;
}
