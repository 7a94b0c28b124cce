use Rattle.std.proofs.Common.{ap, ◌∙◌}
use Rattle.std.specs.Prelude.{codes, unwrap_or, option_and_then}
use Rattle.mx_auth.specs.StateView.{join_rule_in, join_rule_of}
use Rattle.mx_auth.proofs.ListLemmas.{unwrap_or-map}
use Rattle.mx_auth.proofs.states.join_rule_in.Goals as goal

pub returns-in-Some : goal.returns-in-Some
unfolding join_rule_in
returns-in-Some g c =
    ap (λ text. text.now) c.unwrap_or.ensures
    ∙ unwrap_or-map (λ text. text.now) c.content_text.result _
    ∙ ap (λ o. unwrap_or o (codes "invite")) c.content_text.ensures
    ∙ ap (λ o. unwrap_or (option_and_then join_rule_of o) (codes "invite")) c.in-Some.ensures

pub returns-in-None : goal.returns-in-None
unfolding join_rule_in
returns-in-None g c = ap (λ o. unwrap_or (option_and_then join_rule_of o) (codes "invite")) c.in-None.ensures
