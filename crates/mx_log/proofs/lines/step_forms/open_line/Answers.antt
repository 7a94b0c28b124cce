use Rattle.std.proofs.Common.{◌≡◌, sym, ap, ◌∙◌, codes, subst, IfOk}
use Rattle.std.specs.Prelude.{option_map, Some, None}
use Rattle.serde_json.specs.Data.{object}
use Rattle.serde_json.specs.View.{view, members_view}
use Rattle.serde_json.specs.declared.value.Value.{Value}
use Rattle.mx_log.specs.Lines.{Line}
use Rattle.mx_log.specs.LinesShown.{line_shown}
use Rattle.mx_pdu.specs.Offers.{offer_by}
use Rattle.mx_requests.proofs.EntryLemmas.{shown_at}
use Rattle.mx_log.proofs.LineLemmas.{opens}
use Rattle.mx_log.proofs.lines.step_forms.open_line.Goals as goal

pub returns-in-Some-remove : goal.returns-in-Some-remove
returns-in-Some-remove g c =
    let only = sym c.has_only.ensures ∙ c.if-not-has_only.false in
    let some = ap (option_map (λ (v : Value). view v)) (sym c.in-Some-remove.is ∙ c.remove.ensures.value) ∙ shown_at (codes "pdus") c.args.members.entries in
    subst (λ (found : Line). IfOk c.opening.result (λ line. line_shown line ≡ found))
    (sym (opens (offer_by (g.V.Verifier.judges c.args.verifier.now)) (object (members_view c.args.members.entries)) _ (Some (view c.in-Some-remove.events)) only (sym c.in_ok-key.ensures ∙ c.in-Some.is) (sym some)))
    c.opening.ensures

pub returns : goal.returns
returns g c =
    let only = sym c.has_only.ensures ∙ c.if-not-has_only.false in
    let none = ap (option_map (λ (v : Value). view v)) (sym c.in-None.is ∙ c.remove.ensures.value) ∙ shown_at (codes "pdus") c.args.members.entries in
    sym (opens (offer_by (g.V.Verifier.judges c.args.verifier.now)) (object (members_view c.args.members.entries)) _ None only (sym c.in_ok-key.ensures ∙ c.in-Some.is) (sym none))
