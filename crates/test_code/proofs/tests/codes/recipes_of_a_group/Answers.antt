use Rattle.test_code.proofs.tests.codes.recipes_of_a_group.Goals as goal

pub recipe-requires-clause-f_lost : goal.recipe-requires-clause-f_lost
recipe-requires-clause-f_lost g c = c.with.ensures 0
