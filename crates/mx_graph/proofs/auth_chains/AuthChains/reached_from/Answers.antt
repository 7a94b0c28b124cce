use Rattle.std.proofs.Common.{◌≡◌, true, sym, ap, subst, ◌∙◌, arith, rules}
use Rattle.mx_graph.specs.AuthChains.{kept_at, place_at, AreDistinct}
use Rattle.mx_graph.specs.Record.{is_in}
use Rattle.mx_graph.proofs.ChainLemmas.{reached-more}
use Rattle.mx_graph.proofs.Closure.{is_in-index}
use Rattle.mx_graph.proofs.ShortChainLemmas.{distinct-none, few-reached}
use Rattle.mx_graph.proofs.auth_chains.AuthChains.reached_from.Goals as goal

pub loop-event-preserved : goal.loop-event-preserved
loop-event-preserved c = record {
  reached = reached-more (place_at c.args.self.now.places.items) (kept_at c.args.self.now.reached.items) c.args.events.now c.loop-event.event-index c.event-item.result c.loop-event.found.items c.add_cited.new.found.items
      c.loop-event-test.true c.event-item.is c.loop-event.invariant.reached (c.in_ok-add_cited.ensures.added (let f = c.if-not-branch.false in grind (arith, f)));
  distinct = c.in_ok-add_cited.ensures.distinct c.loop-event.invariant.distinct;
}

pub loop-event-init : goal.loop-event-init
loop-event-init c = record { reached = search rules; distinct = subst AreDistinct (sym c.new-found.ensures.items) distinct-none }

pub returns-then-not-branch-clause-answers : goal.returns-then-not-branch-clause-answers
returns-then-not-branch-clause-answers c = λ cited all ends few.
    let event = c.event-item.result in
    let member : is_in c.args.events.now event ≡ true =
    ap (is_in c.args.events.now) c.event-item.is ∙ is_in-index c.args.events.now c.loop-event.event-index event c.loop-event-test.true in
    let done =
    c.in_ok-add_cited.ensures.answers (cited event member) (all event member)
    (few-reached (place_at c.args.self.now.places.items) (kept_at c.args.self.now.reached.items) ends c.args.events.now c.loop-event.event-index c.loop-event.found.items c.loop-event.invariant.reached c.loop-event.invariant.distinct few) in
    let f = c.if-not-branch.true in
    grind (arith, f, done)

pub returns-then-len-gt-MOST_CHAINS-clause-answers : goal.returns-then-len-gt-MOST_CHAINS-clause-answers
returns-then-len-gt-MOST_CHAINS-clause-answers c = λ cited all ends few.
    let within =
    few-reached (place_at c.args.self.now.places.items) (kept_at c.args.self.now.reached.items) ends c.args.events.now c.loop-event.event-index c.loop-event.found.items c.loop-event.invariant.reached c.loop-event.invariant.distinct few in
    let f = c.if-len-gt-MOST_CHAINS.true in
    grind (arith, f, within)
