-- Two states that differ at few keys, and what is in conflict among others.
use Rattle.std.proofs.Common.{◌≡◌, ℕ, Bool, true, false, ◌&&◌, ◌||◌, ◌⊎◌, inl, inr, List, Option, Some, None, refl, sym, ap, subst, ◌∙◌}
use Rattle.std.specs.Prelude.{IfSome, is_some}
use Rattle.std.specs.List.{All}
use Rattle.std.specs.Ordering.{is_eq}
use Rattle.mx_pdu.specs.StateKeys.{Key}
use Rattle.mx_graph.specs.Record.{Row, is_in}
use Rattle.mx_graph.specs.Graph.{IsSound, auth_chain}
use Rattle.mx_graph.proofs.Members.{In}
use Rattle.mx_graph.proofs.Closure.{is_in-from, is_in-to, or_left}
use Rattle.mx_graph.specs.StateMap.{State, key_cmp, entry, events_of}
use Rattle.mx_orders.proofs.Members.{in_map, in_map-from}
use Rattle.mx_state_res.specs.ChainDifference.{cites}
use Rattle.mx_state_res.specs.KeptResolutions.{AllCiteReached, CitesReached, IsKeptAside, events_checked}
use Rattle.mx_state_res.specs.LaterResolution.{CitesWithin, IsAside, is_reached}
use Rattle.mx_states.specs.Numbered.{AllAlike}
use Rattle.mx_state_res.specs.declared.kept_resolutions.KeptResolution.{KeptResolution}
use Rattle.mx_state_res.proofs.ChainLemmas.{chain-least}
use Rattle.mx_state_res.proofs.EqualStateLemmas.{find-own}
use Rattle.mx_states.proofs.KeyLemmas.{Sorted, key_cmp-itself}
use Rattle.mx_state_res.proofs.KeptResolutionLemmas.{if-some}
use Rattle.mx_state_res.proofs.NumberedConflictLemmas.{find-in}
use Rattle.mx_state_res.proofs.SetLemmas.{all-at}

module _ (order full : List ℕ) (same : (p : ℕ) → is_in order p ≡ is_in full p) (d s t : State) (alike : (key : Key) → entry d key ≡ None → entry t key ≡ entry s key) where
  -- ---- what events cite

  module _ (rows : List Row) (sound : IsSound rows) (sorted : Sorted s) where
    reached-full : (q : ℕ) → is_reached rows order t q ≡ true → is_reached rows full t q ≡ true
    reached-full q h = (λ i. is_in (auth_chain rows (events_of t)) q || (sym (same q) i && is_in (events_of t) q)) ∙ h

    pub cites-within : AllCiteReached rows order s t d → CitesWithin rows full s t
    cites-within h p q m c =
        let r = in_map-from (λ (e : Key × ℕ). e.1) p s (is_in-to p (events_of s) m) in
        by r.0 r.2 (find-own s sorted r.0 r.1) (entry d r.0.0) refl
      where
        by : (e : Key × ℕ) → p ≡ e.1 → entry s e.0 ≡ Some e.1 → (o : Option ℕ) → entry d e.0 ≡ o → is_reached rows full t q ≡ true
        by e is own None none =
            let there : In (e.0, e.1) t = find-in e.0 t e.1 (alike e.0 none ∙ own) in
            let member : is_in (events_of t) p ≡ true = ap (is_in (events_of t)) is ∙ is_in-from e.1 (events_of t) (in_map (λ (e : Key × ℕ). e.1) (e.0, e.1) t there) in
            or_left (is_in (auth_chain rows (events_of t)) q) _ ((chain-least rows (events_of t) sound).0 p q (or_left (is_in (events_of t) p) _ member) c)
        by e is own (Some y) found =
            let told = all-at (λ (f : Key × ℕ). IfSome (entry s f.0) (CitesReached rows order t)) d h (e.0, y) (find-in e.0 d y found) in
            reached-full q (subst (λ o. IfSome o (CitesReached rows order t)) own told q (subst (λ n. is_in (cites rows n) q ≡ true) is c))

  -- ---- what stands beside the event

  module _ (states : List State) (kept : KeptResolution) (checked : order ≡ events_checked kept.order.items) (apart : (key : Key) → is_some (entry kept.differing key) ≡ true → AllAlike key states → ⊥) (key : Key) where
    pub beside : All (λ (e : Key × ℕ). (e.0 ≡ key) ⊎ IsKeptAside kept t e.0) d → (q : Key) → is_eq (key_cmp q key) ≡ false → (entry t q ≡ entry s q) ⊎ IsAside states full t q
    beside h q other = by (entry d q) refl
      where
        aside : (q ≡ key) ⊎ IsKeptAside kept t q → (entry t q ≡ entry s q) ⊎ IsAside states full t q
        aside (inl e) = absurd (cc (sym other ∙ ap (λ k. is_eq (key_cmp k key)) e ∙ ap is_eq (key_cmp-itself key)))
        aside (inr k) = inr (apart q k.0, if-some _ _ (entry t q) (λ p m. sym (same p) ∙ ap (λ ps. is_in ps p) checked ∙ m) k.1)

        by : (o : Option ℕ) → entry d q ≡ o → (entry t q ≡ entry s q) ⊎ IsAside states full t q
        by None none = inl (alike q none)
        by (Some y) found = aside (all-at (λ (e : Key × ℕ). (e.0 ≡ key) ⊎ IsKeptAside kept t e.0) d h (q, y) (find-in q d y found))
