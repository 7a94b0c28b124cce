use Rattle.std.proofs.Common.{option_map, sym, ap, ◌∙◌}
use Rattle.mx_audit.specs.EventLines.{event_text}
use Rattle.mx_page.proofs.PartLemmas.{none-there, text-there}
use Rattle.mx_page.proofs.page_entries.line_of_event.Goals as goal

pub returns-in-Some : goal.returns-in-Some
returns-in-Some c =
    text-there c.args.audit.now c.args.number _ (event_text c.args.audit.now c.args.number) c.requires
    (ap (option_map (λ text. text.items)) (sym c.in-Some.is) ∙ c.in_ok-line.ensures)

pub returns-in-None : goal.returns-in-None
returns-in-None c =
    none-there c.args.audit.now c.args.number _ (event_text c.args.audit.now c.args.number) c.requires
    (ap (option_map (λ text. text.items)) (sym c.in-None.is) ∙ c.in_ok-line.ensures)
