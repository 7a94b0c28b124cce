-- What an event changes in the state, and what its prev events change before it.
use Rattle.std.proofs.Common.{◌≡◌, ◌<◌, ℕ, Bool, true, false, List, [], ◌∷◌, cond, length, Option, None, Some, option_map, sym, ap, ◌∙◌, arith}
use Rattle.std.specs.Prelude.{if◌then◌else◌, unwrap_or}
use Rattle.std.specs.List.{All}
use Rattle.std.specs.FinMap.Entries.{put}
use Rattle.mx_redact.specs.Fields.{Event, kind}
use Rattle.mx_pdu.specs.Event.{state_key_of}
use Rattle.mx_pdu.specs.StateKeys.{Key}
use Rattle.mx_auth.specs.Rules.{key_of}
use Rattle.mx_graph.specs.Record.{event}
use Rattle.mx_graph.specs.StateMap.{State, entry, key_cmp}
use Rattle.mx_receipt.specs.Receipt.{Kept, is_rejected, kept_at, rows_of, state_after, state_before}
use Rattle.mx_page.specs.Changes.{changes, same_event}
use Rattle.mx_page.specs.Page.{base_state, changes_after, changes_before, first_of, prevs}
use Rattle.mx_page.proofs.OneStateLemmas.{before-sorted, event-at, one-before}
use Rattle.mx_page.proofs.PutChangeLemmas.{changes-itself, changes-put}

-- ---- before it

-- of an event with one prev event
pub one-changes : (kept : List Kept) (p : ℕ) (found : List ℕ) → p < length kept → found ≡ prevs kept p → All (λ q. q < p) found → length found ≡ 1 → changes_before kept p ≡ []
unfolding changes_before
one-changes kept p [] here cited lower e = absurd (omega arith)
one-changes kept p (q ∷ []) here cited lower e =
    ap (λ qs. changes (base_state kept (first_of qs)) (state_before kept p)) (sym cited)
    ∙ ap (changes (state_after kept q)) (one-before kept p q here (sym cited) (lower 0 q (omega arith)))
    ∙ changes-itself (state_after kept q)
one-changes kept p (q ∷ r ∷ found) here cited lower e = absurd (omega arith)

-- ---- at its own key

module _ (kept : List Kept) (p : ℕ) where
  abbrev old : State
  old = state_before kept p

  abbrev after_by : Bool → Option Key → State
  after_by rejected key = if rejected then old else unwrap_or (option_map (λ k. put key_cmp k p old) key) old

  after-is : changes_after kept p ≡ changes old (after_by (is_rejected (kept_at kept p).verdict) (key_of (event (rows_of kept) p)))
  unfolding changes_after state_after
  after-is = ap (λ e. changes old (after_by (is_rejected (kept_at kept p).verdict) (key_of e))) (sym (event-at kept p))

  pub rejected-changes : is_rejected (kept_at kept p).verdict ≡ true → changes_after kept p ≡ []
  rejected-changes r = after-is ∙ ap (λ b. changes old (after_by b (key_of (event (rows_of kept) p)))) r ∙ changes-itself old

  pub message-changes : key_of (event (rows_of kept) p) ≡ None → changes_after kept p ≡ []
  message-changes none = after-is ∙ ap (λ k. changes old (after_by (is_rejected (kept_at kept p).verdict) k)) none ∙ by (is_rejected (kept_at kept p).verdict)
    where
      by : (b : Bool) → changes old (after_by b None) ≡ []
      by true = changes-itself old
      by false = changes-itself old

  state-changes : (key : Key) → is_rejected (kept_at kept p).verdict ≡ false → key_of (event (rows_of kept) p) ≡ Some key
      → changes_after kept p ≡ cond (same_event (entry old key) (Some p)) [] ((key, Some p) ∷ [])
  state-changes key r some =
      after-is ∙ ap (λ b. changes old (after_by b (key_of (event (rows_of kept) p)))) r ∙ ap (λ k. changes old (after_by false k)) some
      ∙ changes-put old key p (before-sorted kept p)

  -- as it is worked out of the event and a look-up
  pub told-is : (e : Event) (s : State) (found : Option ℕ) (own_kind looked key : List ℕ) → is_rejected (kept_at kept p).verdict ≡ false → e ≡ event (rows_of kept) p → Some key ≡ state_key_of e
      → own_kind ≡ kind e → looked ≡ kind e → s ≡ old → found ≡ entry s (looked, key) → cond (same_event found (Some p)) [] (((own_kind, key), Some p) ∷ []) ≡ changes_after kept p
  told-is e s found own_kind looked key r is some k l same f =
      let there : found ≡ entry old (kind e, key) = f ∙ (λ i. entry (same i) (l i, key)) in
      (λ i. cond (same_event (there i) (Some p)) [] (((k i, key), Some p) ∷ []))
      ∙ sym (state-changes (kind e, key) r (ap key_of (sym is) ∙ ap (option_map (λ t. (kind e, t))) (sym some)))
