-- The state after an event that is no state event.
use Rattle.std.proofs.Common.{◌≡◌, ℕ, Bool, true, false, List, Option, None, Some, cond, refl, sym, ap, ◌∙◌}
use Rattle.std.specs.Prelude.{is_some, unwrap_or, option_map}
use Rattle.std.specs.FinMap.Entries.{put}
use Rattle.std.proofs.lemmas.Bool.{true≢false, or_from}
use Rattle.mx_redact.specs.Fields.{Event, kind}
use Rattle.mx_pdu.specs.Event.{state_key_of, is_state}
use Rattle.mx_graph.specs.StateMap.{State, key_cmp}
use Rattle.mx_orders.specs.StateMap.{with_event}
use Rattle.mx_receipt.specs.Receipt.{Kept, kept_at, is_rejected, state_before, state_after}
use Rattle.mx_access.specs.Access.{visible_under, visible}

no-key : (s : State) (e : Event) (p : ℕ) (o : Option (List ℕ)) → state_key_of e ≡ o → is_some o ≡ false → with_event s e p ≡ s
no-key s e p None h k = ap (λ o. unwrap_or (option_map (λ key. put key_cmp key p s) (option_map (λ state_key. (kind e, state_key)) o)) s) h
no-key s e p (Some key) h k = absurd (true≢false k)

either-way : (b : Bool) (s t : State) → t ≡ s → cond b s t ≡ s
either-way true s t h = refl
either-way false s t h = h

no-state : (kept : List Kept) (p : ℕ) → is_state (kept_at kept p).event ≡ false → state_after kept p ≡ state_before kept p
unfolding state_after
no-state kept p h = either-way (is_rejected (kept_at kept p).verdict) (state_before kept p) _ (no-key (state_before kept p) (kept_at kept p).event p _ refl h)

-- such an event is visible by the state before it, or not at all
pub seen-by_neither : (kept : List Kept) (server : List ℕ) (p : ℕ) → visible_under kept server (state_before kept p) ≡ false → is_state (kept_at kept p).event ≡ false → false ≡ visible kept server p
unfolding visible
seen-by_neither kept server p h k =
    sym (or_from (visible_under kept server (state_before kept p)) (visible_under kept server (state_after kept p)) h (ap (visible_under kept server) (no-state kept p k) ∙ h))
