use Rattle.std.proofs.Common.{◌<◌, ◌≤◌, reverse, arith, ap}
use Rattle.std.proofs.lemmas.List.{reverse-append}
use Rattle.std.specs.Ordering.{nat_cmp, is_eq}
use Rattle.std.specs.BTreeSet.{contains}
use Rattle.std.specs.List.{list_any}
use Rattle.mx_graph.specs.Edges.{cited}
use Rattle.mx_graph.proofs.WalkLemmas.{above, above-member, above-bound, new_below, walk-goes, walk-ends, empty-from}
use Rattle.mx_graph.proofs.closing.taken_down.Goals as goal

pub loop-event-smaller : goal.loop-event-smaller
loop-event-smaller c =
    let lower : above c.wait_for_cited.new.waiting.keys ≤ c.in-Some.event =
    above-bound c.in-Some.event c.wait_for_cited.new.waiting.keys
    (new_below (cited c.args.edges.now) (contains nat_cmp c.args.waiting) (reverse c.loop-event.found.items) (contains nat_cmp c.loop-event.waiting) (contains nat_cmp c.pop_last.new.self) (contains nat_cmp c.wait_for_cited.new.waiting) c.in-Some.event
    c.loop-event.invariant c.in-Some.ensures.member c.in-Some.ensures.greatest c.in-Some.ensures.updates.0 c.in_ok-wait_for_cited.ensures c.requires) in
    let higher : c.in-Some.event < above c.loop-event.waiting.keys = above-member c.in-Some.event c.loop-event.waiting.keys c.in-Some.ensures.member in
    omega arith

pub loop-event-preserved : goal.loop-event-preserved
loop-event-preserved c =
    rw (c.in_ok-push.ensures.items, reverse-append)
    (walk-goes (cited c.args.edges.now) (contains nat_cmp c.args.waiting) (reverse c.loop-event.found.items) (contains nat_cmp c.loop-event.waiting) (contains nat_cmp c.pop_last.new.self) (contains nat_cmp c.wait_for_cited.new.waiting) c.in-Some.event
    c.loop-event.invariant c.in-Some.ensures.member c.in-Some.ensures.greatest c.in-Some.ensures.updates.0 c.in_ok-wait_for_cited.ensures c.requires)

pub returns-clause-all : goal.returns-clause-all
returns-clause-all c =
    walk-ends (cited c.args.edges.now) (contains nat_cmp c.args.waiting) (reverse c.loop-event.found.items) (contains nat_cmp c.loop-event.waiting) c.loop-event.invariant
    (λ q. ap (list_any (λ k. is_eq (nat_cmp q k))) (empty-from c.loop-event.waiting.keys c.in_default.ensures.variant.1))
