use Rattle.std.proofs.Common.{◌<◌, ◌≤◌, ap, arith, reverse}
use Rattle.std.proofs.lemmas.List.{reverse-append}
use Rattle.std.specs.BTreeSet.{contains}
use Rattle.std.specs.List.{list_any}
use Rattle.std.specs.Ordering.{is_eq, nat_cmp}
use Rattle.mx_graph.proofs.WalkLemmas.{above, above-bound, above-member, empty-from, walk-ends}
use Rattle.mx_orders.specs.Passed.{cites_from}
use Rattle.mx_orders.proofs.PassedLemmas.{passing-begins, passing-below, passing-goes, taken-known, waiting-known}
use Rattle.mx_orders.proofs.passed_rows.walked_down.Goals as goal

pub loop-row-init : goal.loop-row-init
loop-row-init c = passing-begins c.args.graph.now c.args.least (contains nat_cmp c.args.waiting) c.requires.known (reverse c.new-found.result.items) (ap reverse c.new-found.ensures.items)

pub auth_events-requires : goal.auth_events-requires
auth_events-requires c = waiting-known c.args.graph.now c.args.least (contains nat_cmp c.args.waiting) (reverse c.loop-row.found.items) (contains nat_cmp c.loop-row.waiting) c.loop-row.invariant c.in-Some.row c.in-Some.ensures.member

pub loop-row-smaller : goal.loop-row-smaller
loop-row-smaller c =
    let lower : above c.wait_for.new.waiting.keys ≤ c.in-Some.row =
    above-bound c.in-Some.row c.wait_for.new.waiting.keys
    (passing-below c.args.graph.now c.requires.sound c.args.least (contains nat_cmp c.args.waiting) (reverse c.loop-row.found.items) c.auth_events.result.now (contains nat_cmp c.loop-row.waiting) (contains nat_cmp c.pop_last.new.self) (contains nat_cmp c.wait_for.new.waiting) c.in-Some.row
    c.loop-row.invariant c.in-Some.ensures.member c.in-Some.ensures.greatest c.in-Some.ensures.updates.0 c.auth_events.ensures.cited c.in_ok-wait_for.ensures) in
    let higher : c.in-Some.row < above c.loop-row.waiting.keys = above-member c.in-Some.row c.loop-row.waiting.keys c.in-Some.ensures.member in
    omega arith

pub loop-row-preserved : goal.loop-row-preserved
loop-row-preserved c =
    rw (c.in_ok-push.ensures.items, reverse-append)
    (passing-goes c.args.graph.now c.requires.sound c.args.least (contains nat_cmp c.args.waiting) (reverse c.loop-row.found.items) c.auth_events.result.now (contains nat_cmp c.loop-row.waiting) (contains nat_cmp c.pop_last.new.self) (contains nat_cmp c.wait_for.new.waiting) c.in-Some.row
    c.loop-row.invariant c.in-Some.ensures.member c.in-Some.ensures.greatest c.in-Some.ensures.updates.0 c.auth_events.ensures.cited c.in_ok-wait_for.ensures)

pub returns-clause-falls : goal.returns-clause-falls
returns-clause-falls c = c.loop-row.invariant.walk.rises

pub returns-clause-all : goal.returns-clause-all
returns-clause-all c =
    walk-ends (cites_from c.args.graph.now c.args.least) (contains nat_cmp c.args.waiting) (reverse c.loop-row.found.items) (contains nat_cmp c.loop-row.waiting) c.loop-row.invariant.walk
    (λ q. ap (list_any (λ k. is_eq (nat_cmp q k))) (empty-from c.loop-row.waiting.keys c.in_default.ensures.variant.1))

pub returns-clause-known : goal.returns-clause-known
returns-clause-known c = taken-known c.args.graph.now c.args.least (contains nat_cmp c.args.waiting) (reverse c.loop-row.found.items) (contains nat_cmp c.loop-row.waiting) c.loop-row.invariant
