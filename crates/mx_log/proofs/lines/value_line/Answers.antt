use Rattle.std.proofs.Common.{◌≡◌, sym, subst, ⊎_elim, ◌∙◌, IfOk}
use Rattle.std.specs.Prelude.{None}
use Rattle.serde_json.specs.View.{view}
use Rattle.mx_log.specs.Lines.{Line}
use Rattle.mx_log.specs.LinesShown.{line_shown}
use Rattle.mx_pdu.specs.Offers.{offer_by}
use Rattle.mx_requests.specs.Requests.{json_of}
use Rattle.mx_log.proofs.LineLemmas.{reads, reads_nothing}
use Rattle.mx_log.proofs.lines.value_line.Goals as goal

pub returns-in-Ok : goal.returns-in-Ok
returns-in-Ok g c =
    subst (λ (found : Line). IfOk c.line_of.result (λ line. line_shown line ≡ found))
    (sym (reads (offer_by (g.V.Verifier.judges c.args.verifier.now)) c.args.line.now (view c.in-Ok.value) c.in-Ok.ensures.ok))
    c.line_of.ensures

pub returns-in-Err-NotJson : goal.returns-in-Err-NotJson
returns-in-Err-NotJson g c =
    let arm = c.in-Err-NotJson in
    let none : json_of c.args.line.now ≡ None = ⊎_elim (λ memory. let other = sym arm.field-0-is ∙ memory in absurd (cc)) (λ found. found.1) arm.ensures.err in
    sym (reads_nothing (offer_by (g.V.Verifier.judges c.args.verifier.now)) c.args.line.now none)
