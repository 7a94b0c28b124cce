-- What differs between a state and itself, and between a state and the same one with an event put at a key.
use Rattle.std.proofs.Common.{◌≡◌, ◌++◌, ℕ, Bool, true, false, T, List, [], ◌∷◌, Option, None, Some, cond, is_none, refl, sym, ap, ap₂, subst, ◌∙◌, append-nil, eq-eqb}
use Rattle.std.specs.List.{flat_map}
use Rattle.std.specs.Ordering.{is_eq}
use Rattle.std.specs.declared.cmp.Ordering.{Ordering}
use Rattle.std.specs.declared.cmp.Ordering.TheVariants.{Less, Equal, Greater}
use Rattle.std.specs.FinMap.Entries.{below_all, by_order, put}
use Rattle.mx_pdu.specs.StateKeys.{Key}
use Rattle.mx_graph.specs.StateMap.{State, entry, key_cmp}
use Rattle.mx_states.proofs.EntryLemmas.{entry-put}
use Rattle.mx_states.proofs.KeyLemmas.{Sorted, first, key_cmp-greater, key_cmp-itself, key_cmp-less, key_cmp-same, less, second}
use Rattle.mx_states.proofs.PlaceLemmas.{put-equal, put-greater, sorted-put}
use Rattle.mx_page.specs.Changes.{Change, change_at, changes, gone_at, same_event}

-- ---- keys at which two states are alike

same-itself : (o : Option ℕ) → same_event o o ≡ true
same-itself None = refl
same-itself (Some p) = eq-eqb p p refl

alike-untold : (old now : State) (k : Key) → entry old k ≡ entry now k → change_at old now k ≡ []
alike-untold old now k e = ap (λ b. cond b [] ((k, entry now k) ∷ [])) (ap (λ o. same_event o (entry now k)) e ∙ same-itself (entry now k))

alike-stays : (old now : State) (k : Key) → entry old k ≡ entry now k → gone_at old now k ≡ []
alike-stays old now k e = by (is_none (entry now k))
  where
    by : (b : Bool) → cond b (change_at old now k) [] ≡ []
    by true = alike-untold old now k e
    by false = refl

-- where nothing is told at any key, nothing is told
none-told : (f : Key → List Change) → ((k : Key) → f k ≡ []) → (s : State) → flat_map (λ e. f e.0) s ≡ []
none-told f none [] = refl
none-told f none (e ∷ s) = ap₂ (λ xs ys. xs ++ ys) (none e.0) (none-told f none s)

pub changes-itself : (s : State) → changes s s ≡ []
unfolding changes
changes-itself s =
    ap₂ (λ xs ys. xs ++ ys) (none-told (gone_at s s) (λ k. alike-stays s s k refl) s) (none-told (change_at s s) (λ k. alike-untold s s k refl) s)

-- ---- what is told at one key alone

module _ (f : Key → List Change) (key : Key) (other : (q : Key) → is_eq (key_cmp q key) ≡ false → f q ≡ []) where
  above-untold : (s : State) → T (below_all key_cmp key s) → flat_map (λ e. f e.0) s ≡ []
  above-untold [] h = refl
  above-untold (e ∷ s) h = ap₂ (λ xs ys. xs ++ ys) (other e.0 (ap is_eq (key_cmp-greater key e.0 (less _ (first _ _ h))))) (above-untold s (second _ _ h))

  -- with that key put into a state it is told of once
  pub put-told : (p : ℕ) (s : State) → Sorted s → flat_map (λ e. f e.0) (put key_cmp key p s) ≡ f key
  put-told p [] h = append-nil (f key)
  put-told p (e ∷ s) h = by (key_cmp key e.0) refl (put-told p s (second _ _ h))
    where
      at_front : key_cmp key e.0 ≡ Less → put key_cmp key p (e ∷ s) ≡ (key, p) ∷ e ∷ s
      at_front c = ap (λ r. by_order r ((key, p) ∷ e ∷ s) ((e.0, p) ∷ s) (e ∷ put key_cmp key p s)) c

      by : (r : Ordering) → key_cmp key e.0 ≡ r → flat_map (λ e. f e.0) (put key_cmp key p s) ≡ f key → flat_map (λ e. f e.0) (put key_cmp key p (e ∷ s)) ≡ f key
      by Less c later =
          let above : T (below_all key_cmp key (e ∷ s)) = first _ _ (subst Sorted (at_front c) (sorted-put key p (e ∷ s) h)) in
          ap (flat_map (λ e. f e.0)) (at_front c) ∙ ap (λ ys. f key ++ ys) (above-untold (e ∷ s) above) ∙ append-nil (f key)
      by Equal c later =
          let same : key ≡ e.0 = key_cmp-same key e.0 c in
          let above : T (below_all key_cmp key s) = subst (λ k. T (below_all key_cmp k s)) (sym same) (first _ _ h) in
          ap (flat_map (λ e. f e.0)) (put-equal key p e s c) ∙ ap₂ (λ xs ys. xs ++ ys) (ap f (sym same)) (above-untold s above) ∙ append-nil (f key)
      by Greater c later =
          ap (flat_map (λ e. f e.0)) (put-greater key p e s c) ∙ ap₂ (λ xs ys. xs ++ ys) (other e.0 (ap is_eq (key_cmp-less key e.0 c))) later

-- ---- an event that is put at a key

module _ (s : State) (key : Key) (p : ℕ) where
  abbrev with_it : State
  with_it = put key_cmp key p s

  at-key : (q : Key) → is_eq (key_cmp q key) ≡ true → entry with_it q ≡ Some p
  at-key q e = entry-put q key p s ∙ ap (λ b. cond b (Some p) (entry s q)) e

  at-other : (q : Key) → is_eq (key_cmp q key) ≡ false → entry s q ≡ entry with_it q
  at-other q e = sym (entry-put q key p s ∙ ap (λ b. cond b (Some p) (entry s q)) e)

  none-gone : (q : Key) → gone_at s with_it q ≡ []
  none-gone q = by (is_eq (key_cmp q key)) refl
    where
      by : (b : Bool) → is_eq (key_cmp q key) ≡ b → gone_at s with_it q ≡ []
      by true e = ap (λ o. cond (is_none o) (change_at s with_it q) []) (at-key q e)
      by false e = alike-stays s with_it q (at-other q e)

  -- it is all that differs
  pub changes-put : Sorted s → changes s with_it ≡ cond (same_event (entry s key) (Some p)) [] ((key, Some p) ∷ [])
  unfolding changes
  changes-put h =
      ap₂ (λ xs ys. xs ++ ys) (none-told (gone_at s with_it) none-gone s)
      (put-told (change_at s with_it) key (λ q e. alike-untold s with_it q (at-other q e)) p s h)
      ∙ ap (λ o. cond (same_event (entry s key) o) [] ((key, o) ∷ [])) (at-key key (ap is_eq (key_cmp-itself key)))
