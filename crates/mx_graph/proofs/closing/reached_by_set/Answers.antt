use Rattle.std.proofs.Common.{reverse, ap}
use Rattle.std.specs.Ordering.{nat_cmp, is_eq}
use Rattle.std.specs.BTreeSet.{contains}
use Rattle.std.specs.List.{list_any}
use Rattle.mx_graph.specs.Edges.{cited}
use Rattle.mx_graph.specs.Record.{is_in}
use Rattle.mx_graph.proofs.WalkLemmas.{all_from-starts}
use Rattle.mx_graph.proofs.closing.reached_by_set.Goals as goal

pub returns-clause-least : goal.returns-clause-least
returns-clause-least c =
    rw c.reverse.ensures.items
    (all_from-starts (cited c.args.edges.now) c.args.starts.now (contains nat_cmp c.new-waiting.result) (contains nat_cmp c.wait_for_starts.new.waiting) (is_in (reverse c.in_ok-found.found.items))
    (λ p. ap (list_any (λ k. is_eq (nat_cmp p k))) c.new-waiting.ensures.empty) c.in_ok-wait_for_starts.ensures c.in_ok-found.ensures.all)
