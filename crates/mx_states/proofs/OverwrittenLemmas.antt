-- Entries put into an empty state in their order, and what is found below all keys.
use Rattle.std.proofs.Common.{◌≡◌, ℕ, Bool, true, false, cond, T, [], ◌∷◌, ◌++◌, filter, Some, None, refl, sym, ap, subst, ◌∙◌, append_assoc}
use Rattle.std.proofs.lemmas.List.{append-nil}
use Rattle.std.specs.declared.cmp.Ordering.TheVariants.{Less}
use Rattle.std.specs.Ordering.{is_eq}
use Rattle.std.specs.FinMap.Entries.{find, put, by_order, below_all}
use Rattle.mx_pdu.specs.StateKeys.{Key}
use Rattle.mx_graph.specs.StateMap.{State, key_cmp}
use Rattle.mx_states.specs.Entries.{overwritten}
use Rattle.mx_states.proofs.KeyLemmas.{Sorted, first, second, less, key_cmp-greater}

-- ---- to put entries at the end

below-middle : (k : Key) (s : State) (e : Key × ℕ) (u : State) → T (below_all key_cmp k (s ++ e ∷ u)) → key_cmp k e.0 ≡ Less
below-middle k [] e u h = less _ (first _ _ h)
below-middle k (f ∷ s) e u h = below-middle k s e u (second _ _ h)

put-last : (s : State) (e : Key × ℕ) (u : State) → Sorted (s ++ e ∷ u) → put key_cmp e.0 e.1 s ≡ s ++ e ∷ []
put-last [] e u h = refl
put-last (f ∷ s) e u h =
    ap (λ r. by_order r (e ∷ f ∷ s) ((f.0, e.1) ∷ s) (f ∷ put key_cmp e.0 e.1 s)) (key_cmp-greater f.0 e.0 (below-middle f.0 s e u (first _ _ h)))
    ∙ ap (λ t. f ∷ t) (put-last s e u (second _ _ h))

overwritten-end : (u s : State) → Sorted (s ++ u) → overwritten s u ≡ s ++ u
overwritten-end [] s h = sym (append-nil s)
overwritten-end (e ∷ u) s h =
    let regroup : (s ++ e ∷ []) ++ u ≡ s ++ e ∷ u = append_assoc s (e ∷ []) u in
    ap (λ t. overwritten t u) (put-last s e u h) ∙ overwritten-end u (s ++ e ∷ []) (subst Sorted (sym regroup) h) ∙ regroup

pub overwritten-empty : (u : State) → Sorted u → overwritten [] u ≡ u
overwritten-empty u h = overwritten-end u [] h

-- ---- entries that pass a test

pub found-below : (test : Key × ℕ → Bool) (k : Key) (s : State) → T (below_all key_cmp k s) → find key_cmp k (filter test s) ≡ None
found-below test k [] h = refl
found-below test k (f ∷ s) h = by (test f) (found-below test k s (second _ _ h))
  where
    by : (b : Bool) → find key_cmp k (filter test s) ≡ None → find key_cmp k (cond b (f ∷ filter test s) (filter test s)) ≡ None
    by true later = ap (λ r. cond (is_eq r) (Some f.1) (find key_cmp k (filter test s))) (less _ (first _ _ h)) ∙ later
    by false later = later
