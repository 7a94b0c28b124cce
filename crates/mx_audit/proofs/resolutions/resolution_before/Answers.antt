use Rattle.std.proofs.Common.{◌≡◌, ◌<◌, length, map, sym, ap, ap₂, subst, ◌∙◌}
use Rattle.std.proofs.lemmas.List.{length-map}
use Rattle.std.specs.List.{All}
use Rattle.mx_receipt.specs.Receipt.{rows_of, version_in, state_after}
use Rattle.mx_audit.specs.Steps.{conflicted_entries, power_steps, other_steps}
use Rattle.mx_audit.specs.Resolutions.{states_before}
use Rattle.mx_audit.proofs.ResolutionLemmas.{found-below, states-are, states-known, lent-known}
use Rattle.mx_audit.proofs.resolutions.resolution_before.Goals as goal

pub states_after-requires : goal.states_after-requires
states_after-requires c =
    let kept = c.args.timeline.now.kept in
    subst (All (λ n. n < length kept)) (sym c.deref.ensures.value)
    (found-below kept c.args.number c.requires.below c.prev_events.result.now c.in_ok-prev_events.prev_events.items c.prev_events.ensures.cited c.prev_events.ensures.lower c.in_ok-prev_events.ensures.rises c.in_ok-prev_events.ensures.same)

pub resolution_steps-requires : goal.resolution_steps-requires
resolution_steps-requires c =
    let kept = c.args.timeline.now.kept in
    let found = c.in_ok-prev_events.prev_events.items in
    let lent : map (λ s. s.now) c.deref-3.result.now ≡ map (state_after kept) found =
    ap (map (λ s. s.now)) c.deref-3.ensures.value ∙ c.in_ok-borrowed.ensures ∙ c.deref-2.ensures.value ∙ c.in_ok-states.ensures ∙ ap (map (state_after kept)) c.deref.ensures.value in
    let count : length kept ≡ length c.args.graph.now = sym (length-map kept _) ∙ ap length (sym c.requires.graph) in
    record {
      known = subst (λ n. All (λ s. All (λ e. e.1 < n) s.now) c.deref-3.result.now) count
          (lent-known (length kept) (map (state_after kept) found) c.deref-3.result.now lent
          (states-known kept c.args.number c.requires.below c.prev_events.result.now found c.prev_events.ensures.cited c.prev_events.ensures.lower c.in_ok-prev_events.ensures.rises c.in_ok-prev_events.ensures.same c.timeline_is_sound.ensures.after));
    }

pub returns-clause-conflicted : goal.returns-clause-conflicted
returns-clause-conflicted c =
    let kept = c.args.timeline.now.kept in
    let found = c.in_ok-prev_events.prev_events.items in
    let states : map (λ s. s.now) c.deref-3.result.now ≡ states_before kept c.args.number =
    ap (map (λ s. s.now)) c.deref-3.ensures.value ∙ c.in_ok-borrowed.ensures ∙ c.deref-2.ensures.value ∙ c.in_ok-states.ensures ∙ ap (map (state_after kept)) c.deref.ensures.value
    ∙ states-are kept c.args.number c.requires.below c.prev_events.result.now found c.prev_events.ensures.cited c.prev_events.ensures.lower c.in_ok-prev_events.ensures.rises c.in_ok-prev_events.ensures.same in
    c.in_ok-steps.ensures.conflicted ∙ ap conflicted_entries states

pub returns-clause-power : goal.returns-clause-power
returns-clause-power c =
    let kept = c.args.timeline.now.kept in
    let found = c.in_ok-prev_events.prev_events.items in
    let states : map (λ s. s.now) c.deref-3.result.now ≡ states_before kept c.args.number =
    ap (map (λ s. s.now)) c.deref-3.ensures.value ∙ c.in_ok-borrowed.ensures ∙ c.deref-2.ensures.value ∙ c.in_ok-states.ensures ∙ ap (map (state_after kept)) c.deref.ensures.value
    ∙ states-are kept c.args.number c.requires.below c.prev_events.result.now found c.prev_events.ensures.cited c.prev_events.ensures.lower c.in_ok-prev_events.ensures.rises c.in_ok-prev_events.ensures.same in
    c.in_ok-steps.ensures.power
    ∙ ap (λ v. power_steps v c.args.graph.now (map (λ s. s.now) c.deref-3.result.now)) c.version.ensures
    ∙ ap₂ (power_steps (version_in (rows_of kept))) c.requires.graph states

pub returns-clause-others : goal.returns-clause-others
returns-clause-others c =
    let kept = c.args.timeline.now.kept in
    let found = c.in_ok-prev_events.prev_events.items in
    let states : map (λ s. s.now) c.deref-3.result.now ≡ states_before kept c.args.number =
    ap (map (λ s. s.now)) c.deref-3.ensures.value ∙ c.in_ok-borrowed.ensures ∙ c.deref-2.ensures.value ∙ c.in_ok-states.ensures ∙ ap (map (state_after kept)) c.deref.ensures.value
    ∙ states-are kept c.args.number c.requires.below c.prev_events.result.now found c.prev_events.ensures.cited c.prev_events.ensures.lower c.in_ok-prev_events.ensures.rises c.in_ok-prev_events.ensures.same in
    c.in_ok-steps.ensures.others
    ∙ ap (λ v. other_steps v c.args.graph.now (map (λ s. s.now) c.deref-3.result.now)) c.version.ensures
    ∙ ap₂ (other_steps (version_in (rows_of kept))) c.requires.graph states
