use Rattle.std.proofs.Common.{◌≤◌, length, sym, arith}
use Rattle.mx_graph.specs.AuthChains.{kept_at, place_at}
use Rattle.mx_graph.proofs.ChainDifferenceLemmas.{met-more}
use Rattle.mx_graph.specs.Graph.{most_chains}
use Rattle.mx_graph.proofs.ShortChainLemmas.{few-met}
use Rattle.mx_graph.proofs.auth_chains.AuthChains.add_met.Goals as goal

pub loop-event-preserved : goal.loop-event-preserved
loop-event-preserved c = record {
  met = met-more (place_at c.args.self.now.places.items) (kept_at c.args.self.now.reached.items) c.args.events.now c.loop-event.event-index c.event-item.result c.in-Some.rows.now c.args.met.now.items c.loop-event.met.items c.add_rows.new.reached.items
      c.loop-event-test.true c.event-item.is c.loop-event.invariant.met (sym c.in-Some.ensures.there) c.in-Some.ensures.rows c.in_ok-add_rows.ensures.rows (c.in_ok-add_rows.ensures.ends (place_at c.args.self.now.places.items));
  distinct = λ old. c.in_ok-add_rows.ensures.distinct (c.loop-event.invariant.distinct old);
}

pub returns-then-len-gt-MOST_CHAINS-clause-answers : goal.returns-then-len-gt-MOST_CHAINS-clause-answers
returns-then-len-gt-MOST_CHAINS-clause-answers c = λ all ends before distinct few.
    let short : length c.loop-event.met.items ≤ most_chains =
    few-met (place_at c.args.self.now.places.items) (kept_at c.args.self.now.reached.items) ends c.args.events.now c.loop-event.event-index c.args.met.now.items c.loop-event.met.items c.loop-event.invariant.met before (c.loop-event.invariant.distinct distinct) few in
    absurd (omega (arith, short, c.len.ensures, c.if-len-gt-MOST_CHAINS.true, c.loop-event.met.ok.0))
