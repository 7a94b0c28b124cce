use Rattle.std.proofs.Common.{◌≡◌, ◌++◌, ◌∷◌, [], ap, ap₂, sym, subst, ◌∙◌, arith}
use Rattle.std.proofs.lemmas.List.{map-append, take_more}
use Rattle.mx_state_res.specs.KeptResolutions.{AreChecked, events_checked}
use Rattle.mx_state_res.specs.LaterResolution.{is_put}
use Rattle.mx_state_res.specs.Numbered.{shown_by}
use Rattle.mx_state_res.specs.Resolution.{after_check, iterative_auth_checks}
use Rattle.mx_state_res.specs.declared.kept_resolutions.checked_events.CheckedEvent.{CheckedEvent}
use Rattle.mx_state_res.proofs.KeptResolutionLemmas.{checked-more, checks-more}
use Rattle.mx_state_res.proofs.kept_resolutions.checked_events.checked_each.Goals as goal

pub loop-event-preserved : goal.loop-event-preserved
loop-event-preserved c =
    let v = c.args.version in
    let rows = c.args.graph.now in
    let s = shown_by c.args.state.now in
    let events = c.args.events.now in
    let old = c.loop-event.found.items in
    let checked = c.in_ok-checked.checked in
    let before = c.loop-event.invariant in
    let pushed = c.in_ok-push.ensures.items in
    let state : shown_by c.check_event.new.state ≡ after_check v rows (iterative_auth_checks v rows s (events_checked old)) checked.event =
    c.in_ok-checked.ensures.ok ∙ ap₂ (after_check v rows) before.state (sym c.in_ok-checked.ensures.event) in
    record {
      so_far =
          ap events_checked pushed ∙ map-append (λ (c : CheckedEvent). c.event) old (checked ∷ [])
          ∙ ap₂ (λ xs y. xs ++ y ∷ []) before.so_far (c.in_ok-checked.ensures.event ∙ c.event-item.is) ∙ sym (take_more events c.loop-event.event-index c.event-item.result (omega arith));
      checked = subst (AreChecked v rows s) (sym pushed) (checked-more v rows old checked s before.checked (c.in_ok-checked.ensures.is_put ∙ ap₂ (is_put v rows) before.state (sym c.in_ok-checked.ensures.event)));
      state = state ∙ sym (ap (λ cs. iterative_auth_checks v rows s (events_checked cs)) pushed ∙ checks-more v rows old checked s);
      known = c.in_ok-checked.ensures.known;
    }
