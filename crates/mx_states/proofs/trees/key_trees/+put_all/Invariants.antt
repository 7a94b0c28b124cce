use Rattle.mx_states.proofs.PutLemmas.{places_sum}
use Rattle.mx_states.proofs.trees.key_trees.+put_all.Given as goal

abbrev pub decreases-put_all : goal.decreases-put_all
decreases-put_all l = places_sum l.puts.now
