use Rattle.std.proofs.Common.{rules, false, sym, refl, ◌∙◌}
use Rattle.mx_auth.proofs.RuleLemmas.{rules-at, rules-create, rules-kept_out, rules-member, rules-other}
use Rattle.mx_auth.proofs.judging.judge.Goals as goal

pub returns-then-eq : goal.returns-then-eq
returns-then-eq g c = c.judge_create.ensures ∙ sym (rules-create _ _ _ (search rules))

pub returns-in_default : goal.returns-in_default
returns-in_default g c = sym (rules-at _ _ _ false _ _ (search rules) (sym c.in_default.ensures) refl)

pub returns-then-is_kept_out : goal.returns-then-is_kept_out
returns-then-is_kept_out g c = sym (rules-kept_out _ _ _ _ (search rules) (sym c.in-Some.ensures) (search rules))

pub returns-then-eq-2 : goal.returns-then-eq-2
returns-then-eq-2 g c = c.judge_member.ensures ∙ sym (rules-member _ _ _ _ (search rules) (sym c.in-Some.ensures) (search rules) (search rules))

pub returns : goal.returns
returns g c = c.judge_other.ensures ∙ sym (rules-other _ _ _ _ (search rules) (sym c.in-Some.ensures) (search rules) (search rules))
