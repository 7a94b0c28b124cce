use Rattle.std.proofs.Common.{◌≡◌, List, take, ap, ap₂, ◌∙◌}
use Rattle.mx_redact.specs.Fields.{Event}
use Rattle.mx_graph.specs.Record.{Row}
use Rattle.mx_receipt.specs.Receipt.{Kept, auth_failure, kept_at, rows_of}
use Rattle.mx_receipt.specs.declared.verdicts.Verdict.{Verdict}
use Rattle.mx_audit.specs.Explaining.{checked_entries}
use Rattle.mx_audit.specs.Noting.{failed_by}
use Rattle.mx_audit.proofs.EarlierLemmas.{event-kept}
use Rattle.mx_audit.proofs.ToldLemmas.{asked-is, failed-is, verdict-is}
use Rattle.mx_audit.proofs.explaining.explained.Goals as goal

pub returns-clause-told : goal.returns-clause-told
returns-clause-told c =
    let kept = c.args.timeline.now.kept in
    let p = c.args.number in
    let told : c.in_ok-failed.failed ≡ failed_by (kept_at kept p).verdict (auth_failure (rows_of (take p kept)) (kept_at kept p).event) =
    c.in_ok-failed.ensures
    ∙ ap₂ (λ (v : Verdict) (ks : List Kept). failed_by v (auth_failure (rows_of ks) c.row.result.now.event)) c.verdict.ensures c.before-earlier.ensures
    ∙ ap (λ (e : Event). failed_by (kept_at kept p).verdict (auth_failure (rows_of (take p kept)) e)) (ap (λ (r : Row). r.event) c.row.ensures ∙ event-kept kept p) in
    let failed = failed-is kept p c.timeline_is_judged.ensures c.requires.later c.requires.below c.in_ok-failed.failed told in
    let asked = asked-is kept p c.in_ok-failed.failed c.in_ok-asked.asked.items failed (c.in_ok-asked.ensures ∙ ap (checked_entries (take p kept) (kept_at kept p).event) c.told_check.ensures) in
    λ i. record { number = p; failed = failed i; asked = asked i }

pub returns-clause-verdict : goal.returns-clause-verdict
returns-clause-verdict c =
    let kept = c.args.timeline.now.kept in
    let p = c.args.number in
    let told : c.in_ok-failed.failed ≡ failed_by (kept_at kept p).verdict (auth_failure (rows_of (take p kept)) (kept_at kept p).event) =
    c.in_ok-failed.ensures
    ∙ ap₂ (λ (v : Verdict) (ks : List Kept). failed_by v (auth_failure (rows_of ks) c.row.result.now.event)) c.verdict.ensures c.before-earlier.ensures
    ∙ ap (λ (e : Event). failed_by (kept_at kept p).verdict (auth_failure (rows_of (take p kept)) e)) (ap (λ (r : Row). r.event) c.row.ensures ∙ event-kept kept p) in
    verdict-is kept p c.timeline_is_judged.ensures c.requires.later c.requires.below c.in_ok-failed.failed
    (failed-is kept p c.timeline_is_judged.ensures c.requires.later c.requires.below c.in_ok-failed.failed told)
