-- The entries of states that are edited, key by key.
use Rattle.std.proofs.Common.{◌≡◌, ℕ, Bool, true, false, cond, T, [], ◌∷◌, filter, is_none, Some, None, refl, sym, ap, subst, ◌∙◌}
use Rattle.std.specs.declared.cmp.Ordering.TheVariants.{Less, Equal, Greater}
use Rattle.std.specs.declared.cmp.Ordering.{Ordering}
use Rattle.std.specs.Option.{option_or}
use Rattle.std.specs.Ordering.{is_eq}
use Rattle.std.specs.FinMap.Entries.{below_all, find, put, find-put, find-where_key, is_sorted-put, is_sorted-where_key, same_entries}
use Rattle.mx_pdu.specs.StateKeys.{Key}
use Rattle.mx_graph.specs.StateMap.{State, key_cmp, entry}
use Rattle.mx_states.specs.Numbered.{edited, without}
use Rattle.mx_states.specs.Entries.{overwritten}
use Rattle.mx_states.proofs.KeyLemmas.{Sorted, key_cmp-total, key_cmp-same, first, second, less}

-- states in order with the same entries are one state
pub same-states : (s t : State) → Sorted s → Sorted t → ((k : Key) → entry s k ≡ entry t k) → s ≡ t
same-states = same_entries key_cmp key_cmp-total key_cmp-same

pub entry-put : (q k : Key) (p : ℕ) (s : State) → entry (put key_cmp k p s) q ≡ cond (is_eq (key_cmp q k)) (Some p) (entry s q)
entry-put = find-put key_cmp key_cmp-total

pub entry-where : (p : Key → Bool) (q : Key) (s : State) → entry (filter (λ e. p e.0) s) q ≡ cond (p q) (entry s q) None
entry-where p q s = find-where_key key_cmp p q (λ x e. ap p (sym (key_cmp-same q x e))) s

pub entry-without : (taken s : State) (q : Key) → entry (without taken s) q ≡ cond (is_none (entry taken q)) (entry s q) None
entry-without taken s q = entry-where (λ k. is_none (entry taken k)) q s

pub sorted-without : (taken s : State) → Sorted s → Sorted (without taken s)
sorted-without taken s h = is_sorted-where_key key_cmp (λ k. is_none (entry taken k)) s h

pub sorted-overwritten : (u s : State) → Sorted s → Sorted (overwritten s u)
sorted-overwritten [] s h = h
sorted-overwritten (e ∷ u) s h = sorted-overwritten u (put key_cmp e.0 e.1 s) (is_sorted-put key_cmp key_cmp-total e.0 e.1 s h)

pub below-none : (k : Key) (s : State) → T (below_all key_cmp k s) → entry s k ≡ None
below-none k [] h = refl
below-none k (f ∷ s) h = ap (λ r. cond (is_eq r) (Some f.1) (find key_cmp k s)) (less _ (first _ _ h)) ∙ below-none k s (second _ _ h)

pub equal-keys : (q k : Key) → is_eq (key_cmp q k) ≡ true → q ≡ k
equal-keys q k e = key_cmp-same q k (by (key_cmp q k) e)
  where
    by : (r : Ordering) → is_eq r ≡ true → r ≡ Equal
    by Less h = absurd (cc h)
    by Equal h = refl
    by Greater h = absurd (cc h)

-- what is put over a state is found first
pub entry-overwritten : (u s : State) (q : Key) → Sorted u → entry (overwritten s u) q ≡ option_or (entry u q) (entry s q)
entry-overwritten [] s q h = refl
entry-overwritten (e ∷ u) s q h =
    entry-overwritten u (put key_cmp e.0 e.1 s) q (second _ _ h) ∙ ap (option_or (entry u q)) (entry-put q e.0 e.1 s)
    ∙ by (is_eq (key_cmp q e.0)) refl
  where
    by : (b : Bool) → is_eq (key_cmp q e.0) ≡ b → option_or (entry u q) (cond b (Some e.1) (entry s q)) ≡ option_or (cond b (Some e.1) (entry u q)) (entry s q)
    by true c = ap (λ o. option_or o (Some e.1)) (subst (λ k. entry u k ≡ None) (sym (equal-keys q e.0 c)) (below-none e.0 u (first _ _ h)))
    by false c = refl

-- ---- a state that is edited

pub entry-edited : (taken s puts : State) (q : Key) → Sorted puts → entry (edited taken s puts) q ≡ option_or (entry puts q) (cond (is_none (entry taken q)) (entry s q) None)
entry-edited taken s puts q h = entry-overwritten puts (without taken s) q h ∙ ap (option_or (entry puts q)) (entry-without taken s q)

pub sorted-edited : (taken s puts : State) → Sorted s → Sorted (edited taken s puts)
sorted-edited taken s puts h = sorted-overwritten puts (without taken s) (sorted-without taken s h)
