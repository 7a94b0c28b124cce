use Rattle.std.proofs.Common.{◌≡◌, length, arith, ap₂, sym, ◌∙◌}
use Rattle.mx_page.specs.Changes.{changes}
use Rattle.mx_page.specs.Page.{changes_before}
use Rattle.mx_page.proofs.OwnChangeLemmas.{one-changes}
use Rattle.mx_page.proofs.page_entries.changes_before.Goals as goal

pub returns-then-prev_events-eq1 : goal.returns-then-prev_events-eq1
returns-then-prev_events-eq1 c =
    let one : length c.prev_events.result.now ≡ 1 = omega arith in
    c.new.ensures.items
    ∙ sym (one-changes c.args.timeline.now.kept c.args.number c.prev_events.result.now c.requires c.prev_events.ensures.cited c.prev_events.ensures.lower one)

pub returns : goal.returns
unfolding changes_before
returns c = c.in_ok-found.ensures ∙ ap₂ changes c.in_ok-old.ensures (c.in_ok-new.ensures ∙ c.state_before.ensures)
