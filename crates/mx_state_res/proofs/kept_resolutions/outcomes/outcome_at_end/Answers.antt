use Rattle.std.proofs.Common.{◌≡◌, ◌<◌, length, refl, ap, subst, sym, ◌∙◌}
use Rattle.std.specs.List.{All}
use Rattle.mx_state_res.specs.LaterResolution.{is_put}
use Rattle.mx_state_res.specs.Numbered.{shown_by}
use Rattle.mx_states.specs.Numbered.{state_at, without}
use Rattle.mx_state_res.proofs.KeptStateLemmas.{all-left}
use Rattle.mx_state_res.proofs.NumberedConflictLemmas.{known-one}
use Rattle.mx_state_res.proofs.kept_resolutions.outcomes.outcome_at_end.Goals as goal

pub is_put-requires-clause-known : goal.is_put-requires-clause-known
is_put-requires-clause-known c =
    let shown : shown_by c.without-state.result ≡ state_at c.args.states.now c.args.kept.now.resolved =
    ap shown_by c.without-state.ensures ∙ ap (λ t. without t c.state.result) c.new-nothing.ensures ∙ all-left c.state.result ∙ c.state.ensures in
    subst (All (λ e. e.1 < length c.args.graph.now)) (sym shown) (known-one c.args.graph.now c.args.states.now c.args.kept.now.resolved c.requires.known c.requires.below)

pub returns-then-is_put : goal.returns-then-is_put
returns-then-is_put c =
    let shown : shown_by c.without-state.result ≡ state_at c.args.states.now c.args.kept.now.resolved =
    ap shown_by c.without-state.ensures ∙ ap (λ t. without t c.state.result) c.new-nothing.ensures ∙ all-left c.state.result ∙ c.state.ensures in
    λ key. (ap (λ t. is_put c.args.version c.args.graph.now t c.args.event) (sym shown) ∙ sym c.is_put.ensures ∙ c.if-is_put.true, refl)

pub returns : goal.returns
returns c =
    let shown : shown_by c.without-state.result ≡ state_at c.args.states.now c.args.kept.now.resolved =
    ap shown_by c.without-state.ensures ∙ ap (λ t. without t c.state.result) c.new-nothing.ensures ∙ all-left c.state.result ∙ c.state.ensures in
    λ key. ap (λ t. is_put c.args.version c.args.graph.now t c.args.event) (sym shown) ∙ sym c.is_put.ensures ∙ c.if-is_put.false
