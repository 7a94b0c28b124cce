use Rattle.std.proofs.Common.{All, ◌<◌, sym, ap, length, map, slice_index, subst, ◌∙◌, arith}
use Rattle.std.specs.BTreeSet.{contains}
use Rattle.std.specs.List.{list_any}
use Rattle.std.specs.Ordering.{nat_cmp, is_eq}
use Rattle.mx_graph.proofs.WalkLemmas.{empty-from}
use Rattle.mx_orders.specs.Lists.{Distinct}
use Rattle.mx_orders.specs.PowerOrder.{power_order}
use Rattle.mx_orders.proofs.PassingLemmas.{numbers-passing, of_events, passing-known}
use Rattle.mx_orders.proofs.RankedOrder.{taking-begins, rank-followed, followers-known, taking-goes, taking-ends}
use Rattle.mx_orders.proofs.power_ordering.power_order.Goals as goal

pub following_of-requires-clause-known : goal.following_of-requires-clause-known
following_of-requires-clause-known c =
    subst (All (λ x. x < length c.args.graph.now)) (sym c.deref-2.ensures.value)
    (passing-known c.args.graph.now c.extend_from_slice.new.self.items c.len-passed.result
    (numbers-passing c.args.graph.now c.args.events.now c.in_ok-numbers.numbers.items c.deref.result.now c.extend_from_slice.new.self.items c.len-passed.result c.graph_is_sound.ensures c.requires.known c.requires.distinct (c.deref.ensures.value ∙ c.in_ok-sorted.ensures)
    c.in_ok-numbers.ensures c.in_ok-extend_from_slice.ensures.items (c.len-passed.ensures ∙ c.in_ok-numbers.numbers.ok.0)).0)

pub following_of-requires-clause-distinct : goal.following_of-requires-clause-distinct
following_of-requires-clause-distinct c =
    subst Distinct (sym c.deref-2.ensures.value)
    (numbers-passing c.args.graph.now c.args.events.now c.in_ok-numbers.numbers.items c.deref.result.now c.extend_from_slice.new.self.items c.len-passed.result c.graph_is_sound.ensures c.requires.known c.requires.distinct (c.deref.ensures.value ∙ c.in_ok-sorted.ensures)
    c.in_ok-numbers.ensures c.in_ok-extend_from_slice.ensures.items (c.len-passed.ensures ∙ c.in_ok-numbers.numbers.ok.0)).0.distinct

pub loop-rank-init : goal.loop-rank-init
loop-rank-init c =
    let it =
    numbers-passing c.args.graph.now c.args.events.now c.in_ok-numbers.numbers.items c.deref.result.now c.extend_from_slice.new.self.items c.len-passed.result c.graph_is_sound.ensures c.requires.known c.requires.distinct (c.deref.ensures.value ∙ c.in_ok-sorted.ensures)
    c.in_ok-numbers.ensures c.in_ok-extend_from_slice.ensures.items (c.len-passed.ensures ∙ c.in_ok-numbers.numbers.ok.0) in
    taking-begins c.args.graph.now c.extend_from_slice.new.self.items c.deref-2.result.now c.len-passed.result c.in_ok-followers.field-0.followers.items c.in_ok-followers.field-0.awaited.items c.deref-3.result.now (contains nat_cmp c.in_ok-ready.ready) c.in_ok-taken.taken.items
    (power_order c.args.graph.now c.args.events.now) it.0 it.1 c.deref-2.ensures.value c.in_ok-followers.ensures.followed c.in_ok-followers.ensures.members c.in_ok-followers.ensures.waiting c.in_ok-followers.ensures.counted c.deref-3.ensures.value c.in_ok-ready.ensures c.in_ok-taken.ensures.items

pub index-requires : goal.index-requires
index-requires c =
    let l =
    rank-followed c.args.graph.now c.extend_from_slice.new.self.items c.len-passed.result c.in_ok-followers.field-0.followers.items c.loop-rank.awaited.items (contains nat_cmp c.loop-rank.ready) c.loop-rank.taken.items (power_order c.args.graph.now c.args.events.now) c.loop-rank.invariant
    c.in-Some.rank c.in-Some.ensures.member in
    let v = c.in_ok-followers.field-0.followers.ok.0 in
    omega (arith, l, v)

pub release-requires : goal.release-requires
release-requires c =
    followers-known c.args.graph.now c.extend_from_slice.new.self.items c.len-passed.result c.in_ok-followers.field-0.followers.items c.loop-rank.awaited.items (contains nat_cmp c.loop-rank.ready) c.loop-rank.taken.items (power_order c.args.graph.now c.args.events.now) c.loop-rank.invariant
    c.in-Some.rank c.in-Some.ensures.member c.index.result.now c.deref_mut.result.now c.deref-in-Some.result.now c.deref_mut.ensures.value c.index.ensures c.deref-in-Some.ensures.value

pub loop-rank-preserved : goal.loop-rank-preserved
loop-rank-preserved c =
    taking-goes c.args.graph.now c.extend_from_slice.new.self.items c.len-passed.result c.in_ok-followers.field-0.followers.items c.loop-rank.awaited.items (contains nat_cmp c.loop-rank.ready) c.loop-rank.taken.items (power_order c.args.graph.now c.args.events.now) c.loop-rank.invariant
    c.in-Some.rank c.in-Some.ensures.member c.index.result.now c.deref_mut.result.now c.deref-in-Some.result.now c.deref_mut.ensures.value c.index.ensures c.deref-in-Some.ensures.value c.loop-rank.awaited.len c.release.new.awaited _ (contains nat_cmp c.pop_first.new.self)
    (contains nat_cmp c.release.new.ready) c.push.new.self.items c.loop-rank.awaited.ok.0 c.release.auto.awaited c.in-Some.ensures.least c.in-Some.ensures.updates.0 c.in_ok-release.ensures.fewer c.in_ok-release.ensures.ready c.in_ok-push.ensures.items

pub returns : goal.returns
returns c =
    c.in_ok-order.ensures ∙ (λ i. map (slice_index (c.deref-4.ensures.value i)) (of_events c.len-passed.result (c.deref-5.ensures.value i)))
    ∙ taking-ends c.args.graph.now c.extend_from_slice.new.self.items c.len-passed.result c.in_ok-followers.field-0.followers.items c.loop-rank.awaited.items (contains nat_cmp c.loop-rank.ready) c.loop-rank.taken.items (power_order c.args.graph.now c.args.events.now) c.loop-rank.invariant
    (λ q. ap (list_any (λ p. is_eq (nat_cmp q p))) (empty-from c.loop-rank.ready.keys c.in_default.ensures.variant.1))
