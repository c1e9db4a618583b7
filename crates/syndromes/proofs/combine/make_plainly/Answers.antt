use Rattle.syndromes.proofs.combine.make_plainly.Goals as goal

pub returns-then-is_some-clause-bytes : goal.returns-then-is_some-clause-bytes
returns-then-is_some-clause-bytes c k = (c.type_inv.syndrome k).fits

pub returns-then-is_some-2-clause-bytes : goal.returns-then-is_some-2-clause-bytes
returns-then-is_some-2-clause-bytes c k = (c.type_inv.syndrome k).fits

pub returns-else-is_some-2-clause-bytes : goal.returns-else-is_some-2-clause-bytes
returns-else-is_some-2-clause-bytes c k = (c.type_inv.syndrome k).fits
