use Rattle.std.proofs.Common.{true, ◌≡◌, [], ℕ, refl, ap, subst, sym, ◌∙◌}
use Rattle.std.specs.Prelude.{is_some, option_copied, slice_get}
use Rattle.std.specs.List.{All}
use Rattle.mx_orders.specs.Mainline.{mainline, mainline_order, power_key}
use Rattle.mx_graph.specs.StateMap.{entry}
use Rattle.mx_state_res.specs.KeptResolutions.{is_settled}
use Rattle.mx_states.specs.Numbered.{state_at, without}
use Rattle.mx_state_res.specs.Resolution.{power_events}
use Rattle.mx_state_res.specs.TouchedKeys.{HasKeysOf}
use Rattle.mx_state_res.proofs.FirstRecordLemmas.{first-record}
use Rattle.mx_state_res.proofs.KeptResolutionLemmas.{has-first, none-left}
use Rattle.mx_state_res.proofs.kept_resolutions.first_records.kept_resolution.Goals as goal

pub returns : goal.returns
returns c =
    let v = c.args.version in
    let rows = c.args.graph.now in
    let states = c.args.states.now in
    let numbers = c.args.numbers.now in
    let base = c.in-Some.base.now in
    let d = c.in_ok-differing.differing in
    let e = c.in-Some-first.field-0.now in
    let there : is_some (entry d e.0) ≡ true = has-first d e (ap (λ xs. slice_get xs 0) (sym c.entries.ensures.entries) ∙ sym c.first.ensures.value ∙ ap option_copied c.in-Some-first.is) in
    let full = c.in_ok-full.full.items in
    let powers = c.in_ok-power_events.field-0.items in
    let no_power : power_events rows full ≡ [] =
    ap (power_events rows) (sym c.deref.ensures.value) ∙ sym c.in_ok-power_events.ensures.set ∙ none-left powers c.in_ok-power_events.field-0.len c.in_ok-power_events.field-0.ok.0 (sym c.is_empty.ensures ∙ c.if-not-is_empty.false) in
    first-record v rows states base c.in-Some.field-0-1.now numbers c.in-Some.ensures.cases.0 c.requires.numbers c.requires.known c.all_are_sorted.ensures d c.entries.ensures.sorted c.in_ok-differing.ensures e.0 there
    full c.in_ok-full.ensures.set c.in_ok-full.ensures.known no_power _ c.in_ok-numbers.ensures.items refl
    (c.in_ok-order.ensures.order ∙ ap (mainline_order rows (mainline rows (entry (without d (state_at states base)) power_key))) c.deref-3.ensures.value)
    c.in_ok-order.ensures.checked
    (λ yes. subst (All (λ (p : ℕ). is_settled rows d (state_at states base) p ≡ true)) c.deref-2.ensures.value (c.are_all_settled-are_settled.ensures yes))
    (subst (All (HasKeysOf v rows c.in_ok-touched.touched)) c.deref-4.ensures.value c.in_ok-touched.ensures) c.requires.below c.requires.resolved
