use Rattle.std.proofs.Common.{◌≡◌, false, Some, codes, nat_eq, ap, sym, ◌∙◌}
use Rattle.std.specs.Prelude.{if◌then◌else◌}
use Rattle.std.specs.List.{starts_with}
use Rattle.mx_metrics.specs.Labels.{refusal_of}
use Rattle.mx_metrics.specs.declared.labels.EventResult.TheVariants.{Rejected}
use Rattle.mx_metrics.proofs.labels.EventResult.of_error.Goals as goal

pub returns-else-starts_with : goal.returns-else-starts_with
returns-else-starts_with c =
    let begins : starts_with nat_eq c.args.error.now (codes "rejected: ") ≡ false =
    ap (λ s. starts_with nat_eq s (codes "rejected: ")) (sym c.as_bytes.ensures.value) ∙ sym c.starts_with.ensures.value ∙ c.if-starts_with.false in
    c.refusal_of.ensures ∙ ap (λ b. if b then Some Rejected else refusal_of c.args.error.now) (sym begins)
