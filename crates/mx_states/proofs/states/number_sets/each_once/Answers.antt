use Rattle.std.proofs.Common.{sym, ap, ◌∙◌}
use Rattle.mx_graph.specs.Record.{is_in}
use Rattle.mx_graph.proofs.SetLemmas.{contains-is}
use Rattle.mx_states.proofs.states.number_sets.each_once.Goals as goal

pub returns : goal.returns
returns c n = ap (λ xs. is_in xs n) c.in_ok-found.ensures ∙ sym (contains-is c.in_ok-set.set.keys n) ∙ c.in_ok-set.ensures n
