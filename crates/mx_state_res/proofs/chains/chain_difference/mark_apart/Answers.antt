use Rattle.std.proofs.Common.{◌≡◌, ◌||◌, ◌&&◌, inl, [], ℕ, Vec, IsTrue, length, map, get_or, refl, sym, ap, ap₂, subst, ◌∙◌}
use Rattle.std.specs.List.{All}
use Rattle.std.specs.declared.alloc.Global.{Global}
use Rattle.mx_graph.specs.Record.{is_in}
use Rattle.mx_state_res.specs.ChainDifference.{cites}
use Rattle.mx_state_res.specs.EventMasks.{is_cited_for}
use Rattle.mx_state_res.specs.Masks.{has, waits, is_there}
use Rattle.mx_state_res.proofs.EventMaskLemmas.{IsMasked, cited-for, entries-known, for-step, head-known, known-step, rest-known}
use Rattle.mx_state_res.proofs.TestLemmas.{or-false}
use Rattle.mx_state_res.proofs.chains.chain_difference.mark_apart.Goals as goal

pub loop-event-init : goal.loop-event-init
loop-event-init c =
    let rows = c.args.graph.now in
    let lists = map (λ (others : Vec ℕ Global). others.items) c.args.apart.now in
    let masks = c.in_ok-masks.masks in
    let all : c.into_iter-event-iterator.result ≡ masks.entries = c.into_iter-event-iterator.ensures.into_iter_gives ∙ c.iter-event-items.ensures.rest in
    record {
      states = refl;
      starts = refl;
      kept = c.requires.kept;
      masked = subst (All (IsMasked (length rows) c.args.walk.now.states)) (sym all) (entries-known (length rows) c.args.walk.now.states masks c.args.apart.now c.iter-event-items.ensures.ordered (rw c.requires.states c.in_ok-masks.ensures.wide) c.in_ok-masks.ensures.there c.requires.apart);
      known = λ p e. inl e;
      marked = λ p i. ap (λ b. waits c.args.walk.now.masks p i || b)
          (ap (λ es. is_cited_for (cites rows) es p i) all ∙ cited-for (cites rows) masks c.iter-event-items.ensures.ordered i (get_or lists i []) (λ x. c.in_ok-masks.ensures.each x i) p);
    }

pub auth_events-requires : goal.auth_events-requires
auth_events-requires c =
    (head-known (IsMasked (length c.args.graph.now) c.args.walk.now.states) (c.in-Some.event.now, c.in-Some.mask.now) c.loop-event.event-iterator c.next.new.self c.in-Some.ensures.steps c.loop-event.invariant.masked).0

pub mark_all-requires-clause-wide : goal.mark_all-requires-clause-wide
mark_all-requires-clause-wide c =
    ap length c.deref.ensures.value
    ∙ (head-known (IsMasked (length c.args.graph.now) c.args.walk.now.states) (c.in-Some.event.now, c.in-Some.mask.now) c.loop-event.event-iterator c.next.new.self c.in-Some.ensures.steps c.loop-event.invariant.masked).1
    ∙ sym c.loop-event.invariant.states

pub loop-event-preserved : goal.loop-event-preserved
loop-event-preserved c =
    let rows = c.args.graph.now in
    let k = c.in-Some.event.now in
    let mask = c.in-Some.mask.now in
    let all = c.loop-event.event-iterator in
    let rest = c.next.new.self in
    let before = c.loop-event.walk.masks in
    let after = c.mark_all.new.self.masks in
    let there : (p : ℕ) → is_there after p ≡ (is_there before p || is_in (cites rows k) p) = λ p. c.in_ok-mark_all.ensures.there p ∙ ap (λ xs. is_there before p || is_in xs p) c.auth_events.ensures.cited in
    let marked : (p i : ℕ) → waits after p i ≡ (waits before p i || (is_in (cites rows k) p && has mask.items i)) =
    λ p i. c.in_ok-mark_all.ensures.marked p i ∙ ap₂ (λ xs m. waits before p i || (is_in xs p && has m i)) c.auth_events.ensures.cited c.deref.ensures.value in
    record {
      states = c.mark_all.ensures.states ∙ c.loop-event.invariant.states;
      starts = c.mark_all.ensures.starts ∙ c.loop-event.invariant.starts;
      kept = c.in_ok-mark_all.ensures.kept;
      masked = rest-known (IsMasked (length rows) c.args.walk.now.states) (k, mask) all rest c.in-Some.ensures.steps c.loop-event.invariant.masked;
      known = known-step rows c.requires.sound k (is_there before) (is_there after) there (λ p. IsTrue (is_there c.args.walk.now.masks p)) c.loop-event.invariant.known;
      marked = λ p i. for-step (cites rows) k mask all rest c.in-Some.ensures.steps (waits before) (waits after) marked p i ∙ c.loop-event.invariant.marked p i;
    }

pub returns : goal.returns
returns c =
    let rows = c.args.graph.now in
    let last = c.loop-event.walk.masks in
    record {
      states = c.loop-event.invariant.states;
      starts = c.loop-event.invariant.starts;
      kept = c.loop-event.invariant.kept;
      known = c.loop-event.invariant.known;
      marked = λ p i l. sym (or-false (waits last p i) (is_cited_for (cites rows) c.loop-event.event-iterator p i) (ap (λ es. is_cited_for (cites rows) es p i) c.in-None.ensures.steps.0)) ∙ c.loop-event.invariant.marked p i;
    }
