use Rattle.std.proofs.Common.{Option, ap, ◌∙◌}
use Rattle.mx_auth.specs.declared.refusals.Rule.{Rule}
use Rattle.mx_audit.specs.Steps.{with_step}
use Rattle.mx_audit.proofs.StepLemmas.{step-checked}
use Rattle.mx_audit.proofs.steps.check.Goals as goal

pub returns-clause-state : goal.returns-clause-state
returns-clause-state c =
    c.in_ok-put_unless.ensures.state
    ∙ ap (λ (r : Option Rule). with_step c.args.graph.now c.args.state.now (record { event = c.args.number; refusal = r })) c.refusal_in-refusal.ensures
    ∙ step-checked c.args.version c.args.graph.now c.args.state.now c.args.number
