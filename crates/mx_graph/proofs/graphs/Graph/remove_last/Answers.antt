use Rattle.std.proofs.Common.{◌≡◌, ◌+◌, ◌++◌, [], ◌∷◌, length, option_to_list, ap, ◌∙◌, length-append}
use Rattle.mx_graph.specs.Graph.{IsSound}
use Rattle.mx_graph.specs.Inside.{AreBoundsOf, AreKeptFor}
use Rattle.mx_graph.specs.Redactions.{naming}
use Rattle.mx_graph.proofs.DepthLemmas.{bounds-pop}
use Rattle.mx_graph.proofs.IndexLemmas.{indexed-sound}
use Rattle.mx_graph.proofs.KeptChainLemmas.{kept-pop}
use Rattle.mx_graph.proofs.RemovalLemmas.{indexed-pop, one_less}
use Rattle.mx_graph.proofs.graphs.Graph.remove_last.Goals as goal

pub invariant_of-self-2 : goal.invariant_of-self-2
invariant_of-self-2 c =
    let rows = c.pop.new.self.items in
    let r = c.in_ok-row.row in
    let one_more : length c.self.inside.rows.items ≡ length rows + 1 = ap length c.in_ok-row.ensures.items ∙ length-append rows (r ∷ []) in
    let sound : IsSound (rows ++ r ∷ []) = rw c.in_ok-row.ensures.items at (indexed-sound _ _ _ _ _ _ _ c.self.invariant) in
    let kept : AreKeptFor (rows ++ r ∷ []) c.self.inside.auth_chains = rw c.in_ok-row.ensures.items at c.self.invariant.auth_chains in
    let bounds : AreBoundsOf (rows ++ r ∷ []) (c.pop-6.new.self.items ++ option_to_list c.pop-6.result) = rw (c.in_ok-row.ensures.items, c.pop-6.ensures.items) at c.self.invariant.depth_bounds in
    indexed-pop rows r c.pop-2.new.self.items c.pop-3.new.self.items (option_to_list c.pop-2.result) (option_to_list c.pop-3.result) c.self.inside.numbers.entries c.remove.new.self.entries
    (naming c.self.inside.redactions) (naming c.remove_last.new.self) c.self.inside.auth_chains (record { places = c.pop-4.new.self; reached = c.pop-5.new.self }) c.self.inside.depth_bounds.items c.pop-6.new.self.items
    (rw (c.in_ok-row.ensures.items, c.pop-2.ensures.items, c.pop-3.ensures.items) at c.self.invariant)
    (one_less c.pop-2.result c.self.inside.prev_edges c.pop-2.new.self _ c.pop-2.ensures.cases (c.self.invariant.prev_len ∙ one_more))
    (one_less c.pop-3.result c.self.inside.auth_edges c.pop-3.new.self _ c.pop-3.ensures.cases (c.self.invariant.auth_len ∙ one_more)) c.remove.ensures.updates.0
    c.remove_last.ensures
    (kept-pop rows r c.self.inside.auth_chains (record { places = c.pop-4.new.self; reached = c.pop-5.new.self }) (option_to_list c.pop-4.result) (option_to_list c.pop-5.result) sound kept c.pop-4.ensures.items c.pop-5.ensures.items
    (one_less c.pop-4.result c.self.inside.auth_chains.places c.pop-4.new.self _ c.pop-4.ensures.cases (c.self.invariant.auth_chains.places_len ∙ one_more))
    (one_less c.pop-5.result c.self.inside.auth_chains.reached c.pop-5.new.self _ c.pop-5.ensures.cases (c.self.invariant.auth_chains.reached_len ∙ one_more)))
    (bounds-pop rows r c.pop-6.new.self.items (option_to_list c.pop-6.result) sound bounds
    (one_less c.pop-6.result c.self.inside.depth_bounds c.pop-6.new.self _ c.pop-6.ensures.cases (c.self.invariant.depth_bounds.len ∙ one_more)))
