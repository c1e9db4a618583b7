use Rattle.coder_c.proofs.wide.+decode_sorted.Given as goal

abbrev pub decreases-decode_sorted : goal.decreases-decode_sorted
decreases-decode_sorted l = l.steps
