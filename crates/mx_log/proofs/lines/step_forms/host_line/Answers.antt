use Rattle.std.proofs.Common.{◌≡◌, sym, ap, ◌∙◌, codes, subst, IfOk}
use Rattle.std.specs.Prelude.{option_map, Some, None}
use Rattle.serde_json.specs.Data.{object}
use Rattle.serde_json.specs.View.{view, members_view}
use Rattle.serde_json.specs.declared.value.Value.{Value}
use Rattle.mx_log.specs.Lines.{Line}
use Rattle.mx_log.specs.LinesShown.{line_shown}
use Rattle.mx_pdu.specs.Offers.{offer_by}
use Rattle.mx_requests.proofs.EntryLemmas.{shown_at}
use Rattle.mx_log.proofs.LineLemmas.{hosts}
use Rattle.mx_log.proofs.lines.step_forms.host_line.Goals as goal

pub returns-in-Some : goal.returns-in-Some
returns-in-Some g c =
    let only = sym c.has_only.ensures ∙ c.if-not-has_only.false in
    let some = ap (option_map (λ (v : Value). view v)) (sym c.in-Some.is ∙ c.remove.ensures.value) ∙ shown_at (codes "event") c.args.members.entries in
    subst (λ (found : Line). IfOk c.hosting.result (λ line. line_shown line ≡ found))
    (sym (hosts (offer_by (g.V.Verifier.judges c.args.verifier.now)) (object (members_view c.args.members.entries)) (Some (view c.in-Some.event)) only (sym some)))
    c.hosting.ensures

pub returns : goal.returns
returns g c =
    let only = sym c.has_only.ensures ∙ c.if-not-has_only.false in
    let none = ap (option_map (λ (v : Value). view v)) (sym c.in-None.is ∙ c.remove.ensures.value) ∙ shown_at (codes "event") c.args.members.entries in
    sym (hosts (offer_by (g.V.Verifier.judges c.args.verifier.now)) (object (members_view c.args.members.entries)) None only (sym none))
