use Rattle.std.proofs.Common.{◌≡◌, ◌<◌, ◌≤◌, ◌∷◌, [], ◌||◌, ◌==◌, ℕ, List, length, true, false, sym, ap, ◌∙◌, arith}
use Rattle.std.specs.Ordering.{nat_cmp, is_eq}
use Rattle.std.specs.BTreeSet.{contains}
use Rattle.std.specs.List.{list_any}
use Rattle.mx_graph.specs.Record.{is_in}
use Rattle.mx_graph.proofs.WalkLemmas.{above, above-member, above-bound, new_below, walk-goes, walk-ends, empty-from}
use Rattle.mx_receipt.specs.Judgements.{leads_further}
use Rattle.mx_receipt.proofs.CoverLemmas.{in-all, walk-starts, all_from-same, leads_further-down, or-swap}
use Rattle.mx_receipt.proofs.RemovalLemmas.{is_in-more}
use Rattle.mx_receipt.proofs.covering.covered.Goals as goal

pub loop-event-init : goal.loop-event-init
loop-event-init c =
    let cites : ℕ → List ℕ = leads_further c.args.graph.now c.args.judgements.now in
    let none : (p : ℕ) → contains nat_cmp c.new-waiting.result p ≡ false = λ p. ap (list_any (λ k. is_eq (nat_cmp p k))) c.new-waiting.ensures.empty in
    let same : (p : ℕ) → contains nat_cmp c.wait_for.new.waiting p ≡ is_in c.args.prev_events.now p = λ p. c.in_ok-wait_for.ensures p ∙ ap (λ b. b || is_in c.args.prev_events.now p) (none p) in (
      [],
      walk-starts cites (is_in c.args.prev_events.now) (contains nat_cmp c.wait_for.new.waiting) same,
      (λ p. ap (λ xs. is_in xs p) c.new-found.ensures.items),
      λ p e. in-all (λ q. q < length c.args.graph.now) c.args.prev_events.now p c.requires.prev (sym (same p) ∙ e),
    )

pub wait_for_led_on-requires-clause-event : goal.wait_for_led_on-requires-clause-event
wait_for_led_on-requires-clause-event c = c.loop-event.invariant.3 c.in-Some.event c.in-Some.ensures.member

pub loop-event-smaller : goal.loop-event-smaller
loop-event-smaller c =
    let lower : above c.wait_for_led_on.new.waiting.keys ≤ c.in-Some.event =
    above-bound c.in-Some.event c.wait_for_led_on.new.waiting.keys
    (new_below (leads_further c.args.graph.now c.args.judgements.now) (is_in c.args.prev_events.now) c.loop-event.invariant.0 (contains nat_cmp c.loop-event.waiting) (contains nat_cmp c.pop_last.new.self) (contains nat_cmp c.wait_for_led_on.new.waiting) c.in-Some.event
    c.loop-event.invariant.1 c.in-Some.ensures.member c.in-Some.ensures.greatest c.in-Some.ensures.updates.0 c.in_ok-wait_for_led_on.ensures (leads_further-down c.args.graph.now c.args.judgements.now c.graph_is_sound.ensures)) in
    let higher : c.in-Some.event < above c.loop-event.waiting.keys = above-member c.in-Some.event c.loop-event.waiting.keys c.in-Some.ensures.member in
    omega arith

pub loop-event-preserved : goal.loop-event-preserved
loop-event-preserved c =
    let cites : ℕ → List ℕ = leads_further c.args.graph.now c.args.judgements.now in
    let down = leads_further-down c.args.graph.now c.args.judgements.now c.graph_is_sound.ensures in
    let below : (q : ℕ) → contains nat_cmp c.wait_for_led_on.new.waiting q ≡ true → q < c.in-Some.event =
    new_below cites (is_in c.args.prev_events.now) c.loop-event.invariant.0 (contains nat_cmp c.loop-event.waiting) (contains nat_cmp c.pop_last.new.self) (contains nat_cmp c.wait_for_led_on.new.waiting) c.in-Some.event
    c.loop-event.invariant.1 c.in-Some.ensures.member c.in-Some.ensures.greatest c.in-Some.ensures.updates.0 c.in_ok-wait_for_led_on.ensures down in (
      c.in-Some.event ∷ c.loop-event.invariant.0,
      walk-goes cites (is_in c.args.prev_events.now) c.loop-event.invariant.0 (contains nat_cmp c.loop-event.waiting) (contains nat_cmp c.pop_last.new.self) (contains nat_cmp c.wait_for_led_on.new.waiting) c.in-Some.event
          c.loop-event.invariant.1 c.in-Some.ensures.member c.in-Some.ensures.greatest c.in-Some.ensures.updates.0 c.in_ok-wait_for_led_on.ensures down,
      (λ p. ap (λ xs. is_in xs p) c.in_ok-push.ensures.items ∙ is_in-more c.loop-event.found.items c.in-Some.event p ∙ ap (λ b. b || (c.in-Some.event == p)) (c.loop-event.invariant.2 p) ∙ or-swap (is_in c.loop-event.invariant.0 p) (c.in-Some.event == p)),
      λ p e. let low : p < c.in-Some.event = below p e in let high : c.in-Some.event < length c.args.graph.now = c.loop-event.invariant.3 c.in-Some.event c.in-Some.ensures.member in omega arith,
    )

pub returns : goal.returns
returns c =
    all_from-same (leads_further c.args.graph.now c.args.judgements.now) (is_in c.args.prev_events.now) (is_in c.loop-event.found.items) (is_in c.loop-event.invariant.0) c.loop-event.invariant.2
    (walk-ends (leads_further c.args.graph.now c.args.judgements.now) (is_in c.args.prev_events.now) c.loop-event.invariant.0 (contains nat_cmp c.loop-event.waiting) c.loop-event.invariant.1
    (λ q. ap (list_any (λ k. is_eq (nat_cmp q k))) (empty-from c.loop-event.waiting.keys c.in_default.ensures.variant.1)))
