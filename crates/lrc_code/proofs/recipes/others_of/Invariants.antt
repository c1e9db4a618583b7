use Rattle.std.proofs.Common.{◌≡◌, ◌≤◌, length, take}
use Rattle.lrc_code.specs.Recipe.{local_recipe}
use Rattle.lrc_code.proofs.recipes.others_of.Given as goal

abbrev pub invariant-loop-i : goal.invariant-loop-i
invariant-loop-i l = record {
  items : l.recipe.items ≡ local_recipe (take l.i l.group) l.f;
  room : length l.recipe.items ≤ l.i;
}
