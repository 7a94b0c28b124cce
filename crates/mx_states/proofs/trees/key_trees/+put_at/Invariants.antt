use Rattle.mx_states.proofs.trees.key_trees.+put_at.Given as goal

abbrev pub decreases-put_at : goal.decreases-put_at
decreases-put_at l = l.place
