use Rattle.std.proofs.Common.{rules, true, false, sym, refl, ◌∙◌}
use Rattle.mx_auth.proofs.RuleLemmas.{other_lines-at, other_lines-third}
use Rattle.mx_auth.proofs.judging.judge_other.Goals as goal

pub returns-then-not-is_joined : goal.returns-then-not-is_joined
returns-then-not-is_joined g c = sym (other_lines-at _ _ false _ _ _ _ (search rules) refl refl refl refl)

pub returns-then-eq : goal.returns-then-eq
returns-then-eq g c = c.judge_third_party_invite.ensures ∙ sym (other_lines-third _ _ (search rules) (search rules))

pub returns-then-not-reaches_required_level : goal.returns-then-not-reaches_required_level
returns-then-not-reaches_required_level g c = sym (other_lines-at _ _ true false false _ _ (search rules) (search rules) (search rules) refl refl)

pub returns-then-has_other_user_as_key : goal.returns-then-has_other_user_as_key
returns-then-has_other_user_as_key g c = sym (other_lines-at _ _ true false true true _ (search rules) (search rules) (search rules) (search rules) refl)

pub returns-then-eq-2 : goal.returns-then-eq-2
returns-then-eq-2 g c = c.judge_power_levels.ensures ∙ sym (other_lines-at _ _ true false true false true (search rules) (search rules) (search rules) (search rules) (search rules))

pub returns : goal.returns
returns g c = sym (other_lines-at _ _ true false true false false (search rules) (search rules) (search rules) (search rules) (search rules))
