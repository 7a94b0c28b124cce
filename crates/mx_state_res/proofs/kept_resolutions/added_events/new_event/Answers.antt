use Rattle.std.proofs.Common.{◌≡◌, ◌⊎◌, None, Some, ap, length, subst, sym, true, ◌∙◌}
use Rattle.std.specs.Prelude.{is_some}
use Rattle.mx_auth.specs.Rules.{key_of}
use Rattle.mx_graph.specs.Record.{Row, is_in}
use Rattle.mx_graph.specs.StateMap.{entry}
use Rattle.mx_state_res.specs.KeptResolutions.{events_checked}
use Rattle.mx_state_res.specs.Resolution.{is_power_event}
use Rattle.mx_state_res.proofs.KeptResolutionLemmas.{at-key, entry-known}
use Rattle.mx_state_res.proofs.kept_resolutions.added_events.new_event.Goals as goal

pub row-requires : goal.row-requires
row-requires c =
    entry-known (length c.args.graph.now) c.args.later.now (c.kind-kind.result.now, c.state_key-state_key.result.now) c.in_ok-event.event c.requires (sym c.in_ok-event.ensures)

pub returns : goal.returns
returns c =
    let key_is : (c.kind-kind.result.now, c.state_key-state_key.result.now) ≡ c.args.entry.now.0 = λ i. (c.kind-kind.ensures i, c.state_key-state_key.ensures i) in (
      entry-known (length c.args.graph.now) c.args.later.now (c.kind-kind.result.now, c.state_key-state_key.result.now) c.in_ok-event.event c.requires (sym c.in_ok-event.ensures),
      ap (entry c.args.later.now) (sym key_is) ∙ sym c.in_ok-event.ensures,
      ap (λ (r : Row). key_of r.event) (sym c.row.ensures) ∙ at-key (c.kind-kind.result.now, c.state_key-state_key.result.now) (key_of c.row.result.now.event) (sym c.is_at.ensures ∙ c.if-not-is_at.false) ∙ ap Some key_is,
      ap (λ cs. is_in (events_checked cs) c.in_ok-event.event) (sym c.deref.ensures.value) ∙ sym c.is_checked.ensures ∙ c.if-is_checked.false,
      ap (λ (r : Row). is_power_event r.event) (sym c.row.ensures) ∙ sym c.is_power_event.ensures ∙ c.if-is_power_event.false,
      subst (λ k. (entry c.args.before.now k ≡ None) ⊎ (is_some (entry c.args.kept.now.differing k) ≡ true)) key_is (c.is_open_at.ensures c.if-not-is_open_at.false),
    )
