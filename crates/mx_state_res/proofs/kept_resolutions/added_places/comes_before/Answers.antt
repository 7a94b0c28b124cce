use Rattle.std.proofs.Common.{[], ◌∷◌, ap, sym, ◌∙◌}
use Rattle.std.specs.Prelude.{option_copied}
use Rattle.mx_orders.specs.Mainline.{mainline, mainline_cmp, mainline_order as ordered}
use Rattle.mx_state_res.proofs.KeptResolutionLemmas.{first-of-two, none-of-two, order-of-two}
use Rattle.mx_state_res.proofs.kept_resolutions.added_places.comes_before.Goals as goal

pub returns-in-Some : goal.returns-in-Some
returns-in-Some c =
    let rows = c.args.graph.now in
    let line = mainline rows c.args.power.now in
    λ new.
    c.eq-is_first.ensures
    ∙ first-of-two (mainline_cmp rows line c.args.event c.args.other) c.args.event c.args.other c.deref.result.now c.in-Some.first.now
    (c.deref.ensures.value ∙ c.in_ok-order.ensures ∙ ap (λ p. ordered rows (mainline rows p) (c.args.event ∷ c.args.other ∷ [])) c.number_in.ensures ∙ order-of-two rows line c.args.event c.args.other)
    (sym c.first.ensures.value ∙ ap option_copied c.in-Some.is) new

pub returns : goal.returns
returns c =
    let rows = c.args.graph.now in
    let line = mainline rows c.args.power.now in
    absurd (none-of-two (mainline_cmp rows line c.args.event c.args.other) c.args.event c.args.other c.deref.result.now
    (c.deref.ensures.value ∙ c.in_ok-order.ensures ∙ ap (λ p. ordered rows (mainline rows p) (c.args.event ∷ c.args.other ∷ [])) c.number_in.ensures ∙ order-of-two rows line c.args.event c.args.other)
    (sym c.first.ensures.value ∙ ap option_copied c.in-None.is))
