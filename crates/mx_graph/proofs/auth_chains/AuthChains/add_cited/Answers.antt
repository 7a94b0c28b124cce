use Rattle.std.proofs.Common.{sym, arith}
use Rattle.mx_graph.specs.AuthChains.{kept_at, place_at}
use Rattle.mx_graph.proofs.ChainLemmas.{added}
use Rattle.mx_graph.proofs.auth_chains.AuthChains.add_cited.Goals as goal

pub returns-clause-added : goal.returns-clause-added
returns-clause-added c = λ _.
    added (place_at c.args.self.now.places.items) (kept_at c.args.self.now.reached.items) c.args.event c.place-place.result c.in-Some.others.now c.args.found.now.items c.add_rows.new.reached.items c.add_row.new.reached.items
    c.place-place.ensures (let f = c.if-not-place.false in grind (arith, f)) (sym c.in-Some.ensures.there) c.in-Some.ensures.rows
    c.in_ok-add_rows.ensures.rows (c.in_ok-add_rows.ensures.ends (place_at c.args.self.now.places.items))
    c.in_ok-add_row.ensures.rows (c.in_ok-add_row.ensures.ends (place_at c.args.self.now.places.items))
