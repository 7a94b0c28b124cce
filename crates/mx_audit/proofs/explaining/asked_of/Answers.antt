use Rattle.std.proofs.Common.{◌≡◌, List, take, sym, ap, ap₂, ◌∙◌}
use Rattle.std.proofs.lemmas.Result.{IfOk-weaker}
use Rattle.mx_redact.specs.Fields.{Event}
use Rattle.mx_auth.specs.Rules.{needed_keys}
use Rattle.mx_graph.specs.Record.{Row}
use Rattle.mx_graph.specs.StateMap.{State}
use Rattle.mx_receipt.specs.Receipt.{Kept, kept_at, rows_of, version_in}
use Rattle.mx_audit.specs.declared.checks.Check.{Check}
use Rattle.mx_audit.specs.declared.checks.Check.TheVariants.{AuthEvents, StateBefore, CurrentState}
use Rattle.mx_audit.specs.Explaining.{checked_entries, entries_at}
use Rattle.mx_audit.proofs.EarlierLemmas.{before-earlier, event-kept}
use Rattle.mx_audit.proofs.explaining.asked_of.Goals as goal

pub returns-in-AuthEvents : goal.returns-in-AuthEvents
returns-in-AuthEvents c =
    let kept = c.args.timeline.now.kept in
    let p = c.args.number in
    let event : c.row.result.now.event ≡ (kept_at kept p).event = ap (λ (r : Row). r.event) c.row.ensures ∙ event-kept kept p in
    IfOk-weaker c.asked_of_auth_events.result (λ asked. asked.items ≡ checked_entries c.before-earlier.result c.row.result.now.event AuthEvents)
    (λ asked. asked.items ≡ checked_entries (take p kept) (kept_at kept p).event c.args.check)
    (λ asked is. is ∙ ap₂ (λ (ks : List Kept) (e : Event). checked_entries ks e AuthEvents) c.before-earlier.ensures event
    ∙ ap (λ (k : Check). checked_entries (take p kept) (kept_at kept p).event k) (sym c.in-AuthEvents.is))
    c.asked_of_auth_events.ensures

pub returns-in-StateBefore : goal.returns-in-StateBefore
returns-in-StateBefore c =
    let kept = c.args.timeline.now.kept in
    let p = c.args.number in
    let event : c.row.result.now.event ≡ (kept_at kept p).event = ap (λ (r : Row). r.event) c.row.ensures ∙ event-kept kept p in
    IfOk-weaker c.asked_of_state.result (λ asked. asked.items ≡ entries_at c.state_before.result (needed_keys (version_in (rows_of c.before-earlier.result)) c.row.result.now.event))
    (λ asked. asked.items ≡ checked_entries (take p kept) (kept_at kept p).event c.args.check)
    (λ asked is. is
    ∙ ap₂ (λ (ks : List Kept) (e : Event). entries_at c.state_before.result (needed_keys (version_in (rows_of ks)) e)) c.before-earlier.ensures event
    ∙ ap (λ (s : State). entries_at s (needed_keys (version_in (rows_of (take p kept))) (kept_at kept p).event)) (c.state_before.ensures ∙ before-earlier kept p c.requires.below)
    ∙ ap (λ (k : Check). checked_entries (take p kept) (kept_at kept p).event k) (sym c.in-StateBefore.is))
    c.asked_of_state.ensures

pub returns-in-CurrentState : goal.returns-in-CurrentState
returns-in-CurrentState c =
    let kept = c.args.timeline.now.kept in
    let p = c.args.number in
    let event : c.row.result.now.event ≡ (kept_at kept p).event = ap (λ (r : Row). r.event) c.row.ensures ∙ event-kept kept p in
    IfOk-weaker c.asked_of_state-in-CurrentState.result (λ asked. asked.items ≡ entries_at c.current_before.result (needed_keys (version_in (rows_of c.before-earlier.result)) c.row.result.now.event))
    (λ asked. asked.items ≡ checked_entries (take p kept) (kept_at kept p).event c.args.check)
    (λ asked is. is
    ∙ ap₂ (λ (ks : List Kept) (e : Event). entries_at c.current_before.result (needed_keys (version_in (rows_of ks)) e)) c.before-earlier.ensures event
    ∙ ap (λ (s : State). entries_at s (needed_keys (version_in (rows_of (take p kept))) (kept_at kept p).event)) c.current_before.ensures
    ∙ ap (λ (k : Check). checked_entries (take p kept) (kept_at kept p).event k) (sym c.in-CurrentState.is))
    c.asked_of_state-in-CurrentState.ensures
