use Rattle.std.proofs.Common.{sym, ap, ◌∙◌}
use Rattle.mx_page.specs.Page.{base_state}
use Rattle.mx_page.proofs.page_entries.base_state.Goals as goal

pub returns-in_ok-state-in-Some : goal.returns-in_ok-state-in-Some
returns-in_ok-state-in-Some c =
    c.in_ok-state-in-Some.ensures ∙ c.state_after.ensures
    ∙ ap (base_state c.args.timeline.now.kept) (sym c.in-Some.is ∙ c.first_prev_event.ensures.first)

pub returns-in-None : goal.returns-in-None
returns-in-None c = c.new.ensures ∙ ap (base_state c.args.timeline.now.kept) (sym c.in-None.is ∙ c.first_prev_event.ensures.first)
