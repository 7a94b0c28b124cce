use Rattle.std.proofs.Common.{sym, ap, ◌∙◌, codes}
use Rattle.std.specs.Prelude.{option_map, Some}
use Rattle.serde_json.specs.View.{view}
use Rattle.serde_json.specs.declared.value.Value.{Value}
use Rattle.mx_log.specs.Lines.{body_of}
use Rattle.mx_requests.proofs.EntryLemmas.{shown_at}
use Rattle.mx_log.proofs.LineLemmas.{body_there}
use Rattle.mx_log.proofs.lines.call_forms.taken_body.Goals as goal

pub returns-in-Some : goal.returns-in-Some
returns-in-Some c =
    let some = ap (option_map (λ (v : Value). view v)) (sym c.in-Some.is ∙ c.remove.ensures.value) ∙ shown_at (codes "body") c.args.members.now.entries in
    c.text_of.ensures ∙ sym (body_there (view c.in-Some.value)) ∙ ap body_of some

pub returns-in-None : goal.returns-in-None
returns-in-None c =
    let none = ap (option_map (λ (v : Value). view v)) (sym c.in-None.is ∙ c.remove.ensures.value) ∙ shown_at (codes "body") c.args.members.now.entries in
    ap Some c.new.ensures.items ∙ ap body_of none
