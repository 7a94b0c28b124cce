use Rattle.std.proofs.Common.{rules, true, false, sym, refl}
use Rattle.mx_auth.proofs.CitingLemmas.{auth_rules-at}
use Rattle.mx_auth.proofs.citing.judge_auth_events.Goals as goal

pub returns-then-eq : goal.returns-then-eq
returns-then-eq c = sym (auth_rules-at _ _ _ true _ _ _ _ (search rules) refl refl refl refl)

pub returns-then-repeats : goal.returns-then-repeats
returns-then-repeats c = sym (auth_rules-at _ _ _ false true _ _ _ (search rules) (search rules) refl refl refl)

pub returns-then-cites_unselected : goal.returns-then-cites_unselected
returns-then-cites_unselected c = sym (auth_rules-at _ _ _ false false true _ _ (search rules) (search rules) (search rules) refl refl)

pub returns-then-cites_rejected : goal.returns-then-cites_rejected
returns-then-cites_rejected c = sym (auth_rules-at _ _ _ false false false true _ (search rules) (search rules) (search rules) (search rules) refl)

pub returns-then-not-cites_create : goal.returns-then-not-cites_create
returns-then-not-cites_create c = sym (auth_rules-at _ _ _ false false false false false (search rules) (search rules) (search rules) (search rules) (search rules))

pub returns : goal.returns
returns c = sym (auth_rules-at _ _ _ false false false false true (search rules) (search rules) (search rules) (search rules) (search rules))
