-- The states that the state before an event is resolved of.
use Rattle.std.proofs.Common.{◌≡◌, ◌<◌, ◌∙◌, ℕ, zero, suc, true, List, [], ◌∷◌, Bor, length, map, sym, ap, subst, arith}
use Rattle.std.proofs.lemmas.List.{length-map}
use Rattle.std.proofs.lemmas.List.Elements.{All-map}
use Rattle.std.specs.Prelude.{IsErrAnd, IsErrOf, Result, Ok, Err}
use Rattle.std.specs.List.{All}
use Rattle.mx_graph.specs.Edges.{Rises}
use Rattle.mx_graph.specs.Record.{Row, event, events_where, is_in, prev_events}
use Rattle.mx_graph.proofs.Closure.{all-in, in-all}
use Rattle.mx_graph.specs.StateMap.{State}
use Rattle.mx_receipt.specs.Receipt.{Kept, rows_of, state_after}
use Rattle.mx_state_res.proofs.SetLemmas.{rising-is}
use Rattle.mx_audit.specs.Resolutions.{states_before}

module _ (kept : List Kept) (p : ℕ) (below : p < length kept) (prev found : List ℕ) (cited : prev ≡ prev_events (rows_of kept) (event (rows_of kept) p)) (lower : All (λ n. n < p) prev) (rises : Rises found) (same : (n : ℕ) → is_in found n ≡ is_in prev n) where
  prev-below : (n : ℕ) → is_in found n ≡ true → n < length kept
  prev-below n h = let l : n < p = in-all (λ m. m < p) prev n lower (sym (same n) ∙ h) in omega arith

  pub found-below : All (λ n. n < length kept) found
  found-below = all-in (λ n. n < length kept) found prev-below

  pub states-are : map (state_after kept) found ≡ states_before kept p
  unfolding states_before
  states-are =
      let rows : List Row = rows_of kept in
      let count : length rows ≡ length kept = length-map kept _ in
      ap (map (state_after kept)) (rising-is rows found (is_in prev) rises (λ n h. let l : n < length kept = prev-below n h in omega arith) same
      ∙ ap (λ (xs : List ℕ). events_where rows (is_in xs)) cited)

  pub states-known : ((n : ℕ) → n < length kept → All (λ e. e.1 < length kept) (state_after kept n)) → All (λ (s : State). All (λ e. e.1 < length kept) s) (map (state_after kept) found)
  states-known known = All-map (λ (s : State). All (λ e. e.1 < length kept) s) (state_after kept) found (λ k d l. known _ (found-below k d l))

-- of lent states
pub lent-known : (n : ℕ) (states : List State) (lent : List (Bor State)) → map (λ (s : Bor State). s.now) lent ≡ states → All (λ (s : State). All (λ e. e.1 < n) s) states → All (λ (s : Bor State). All (λ e. e.1 < n) s.now) lent
lent-known n states lent are known = by lent (subst (λ ss. All (λ (s : State). All (λ e. e.1 < n) s) ss) (sym are) known)
  where
    by : (bs : List (Bor State)) → All (λ (s : State). All (λ e. e.1 < n) s) (map (λ (s : Bor State). s.now) bs) → All (λ (s : Bor State). All (λ e. e.1 < n) s.now) bs
    by [] h k d l = absurd (omega arith)
    by (b ∷ bs) h zero d l = h zero b.now (omega arith)
    by (b ∷ bs) h (suc k) d l = by bs (λ i e m. h (suc i) e (omega arith)) k d (omega arith)

-- an error that is given on as it is
pub same-error : {S T E : Type 0} (r : Result S E) (p : Result T E) (e cause : E) → p ≡ Err e → IsErrAnd r (λ a. a ≡ e) → IsErrOf r cause → IsErrOf p cause
same-error (Ok x) p e cause was is h = absurd is
same-error (Err a) p e cause was is h = cc (was, is, h)
