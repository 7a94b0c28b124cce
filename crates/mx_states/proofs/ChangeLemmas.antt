-- What changes a state.
use Rattle.std.proofs.Common.{◌≡◌, ℕ, ◌==◌, Bool, true, false, cond, not, ◌&&◌, List, [], ◌∷◌, filter, Option, Some, None, is_some, is_none, refl, sym, ap, ap₂, subst, ◌∙◌, eqb-true, ◌≤◌, ◌++◌, get_or, arith}
use Rattle.std.proofs.lemmas.List.Elements.{All-append}
use Rattle.std.specs.List.{All}
use Rattle.std.specs.Option.{option_or}
use Rattle.std.specs.Ordering.{is_eq}
use Rattle.std.specs.FinMap.Entries.{find}
use Rattle.mx_redact.specs.Fields.{is_some_and}
use Rattle.mx_pdu.specs.StateKeys.{Key}
use Rattle.mx_graph.specs.StateMap.{State, key_cmp, entry}
use Rattle.mx_states.specs.Entries.{has_entry}
use Rattle.mx_states.specs.Numbered.{edited, really_put, really_taken}
use Rattle.mx_states.proofs.KeyLemmas.{Sorted, first, second, sorted-filter}
use Rattle.mx_states.proofs.OverwrittenLemmas.{found-below}
use Rattle.mx_states.proofs.EntryLemmas.{entry-edited, entry-where, equal-keys, same-states, sorted-edited}
use Rattle.mx_states.proofs.DifferingLemmas.{all-only}

-- ---- entries that pass a test

abbrev pub kept : (Key × ℕ → Bool) → Key → Option ℕ → Option ℕ
kept test k None = None
kept test k (Some p) = cond (test (k, p)) (Some p) None

pub entry-filter : (test : Key × ℕ → Bool) (k : Key) (s : State) → Sorted s → entry (filter test s) k ≡ kept test k (entry s k)
entry-filter test k [] h = refl
entry-filter test k (f ∷ s) h = by (is_eq (key_cmp k f.0)) refl (test f) refl (entry-filter test k s (second _ _ h))
  where
    by : (b : Bool) → is_eq (key_cmp k f.0) ≡ b → (t : Bool) → test f ≡ t → entry (filter test s) k ≡ kept test k (entry s k) → entry (cond t (f ∷ filter test s) (filter test s)) k ≡ kept test k (cond b (Some f.1) (find key_cmp k s))
    by true c true t later =
        ap (λ b. cond b (Some f.1) (find key_cmp k (filter test s))) c ∙ ap (λ b. cond b (Some f.1) None) (sym (ap (λ z. test (z, f.1)) (equal-keys k f.0 c) ∙ t))
    by true c false t later =
        subst (λ z. find key_cmp z (filter test s) ≡ None) (sym (equal-keys k f.0 c)) (found-below test f.0 s (first _ _ h))
        ∙ ap (λ b. cond b (Some f.1) None) (sym (ap (λ z. test (z, f.1)) (equal-keys k f.0 c) ∙ t))
    by false c true t later = ap (λ b. cond b (Some f.1) (find key_cmp k (filter test s))) c ∙ later
    by false c false t later = later

-- ---- what changes a state

really-is : (k : Key) (o x d : Option ℕ)
    → option_or (kept (λ e. not (is_some_and (λ p. p == e.1) x)) k o) (cond (is_none (cond (is_some x && is_none o) d None)) x None)
    ≡ option_or o (cond (is_none d) x None)
really-is k None None None = refl
really-is k None None (Some c) = refl
really-is k None (Some q) None = refl
really-is k None (Some q) (Some c) = refl
really-is k (Some p) None d = refl
really-is k (Some p) (Some q) d = by (q == p) refl
  where
    by : (b : Bool) → (q == p) ≡ b → option_or (cond (not b) (Some p) None) (Some q) ≡ Some p
    by true e = ap Some (eqb-true q p e)
    by false e = refl

pub change-is : (keys s puts : State) → Sorted s → Sorted puts → edited (really_taken keys s puts) s (really_put s puts) ≡ edited keys s puts
change-is keys s puts g h =
    same-states (edited (really_taken keys s puts) s (really_put s puts)) (edited keys s puts)
    (sorted-edited (really_taken keys s puts) s (really_put s puts) g) (sorted-edited keys s puts g)
    (λ k.
    entry-edited (really_taken keys s puts) s (really_put s puts) k (sorted-filter (λ e. not (has_entry e s)) puts h)
    ∙ ap₂ (λ o t. option_or o (cond (is_none t) (entry s k) None)) (entry-filter (λ e. not (has_entry e s)) k puts h)
    (entry-where (λ q. is_some (entry s q) && is_none (entry puts q)) k keys)
    ∙ really-is k (entry puts k) (entry s k) (entry keys k) ∙ sym (entry-edited keys s puts k h))

-- ---- the fewest changes

pub least-step : (size : ℕ → ℕ) (xs : List ℕ) (n before after : ℕ) → All (λ x. before ≤ size x) xs → after ≤ before → after ≤ size n → All (λ x. after ≤ size x) (xs ++ n ∷ [])
least-step size xs n before after h l m =
    All-append (λ x. after ≤ size x) xs (n ∷ []) (λ k d i. let j : before ≤ size (get_or xs k d) = h k d i in omega arith) (all-only (λ x. after ≤ size x) n m)
