-- A record that takes one more event.
use Rattle.std.proofs.Common.{◌≡◌, ◌<◌, ◌≤◌, ◌++◌, ℕ, zero, suc, List, [], ◌∷◌, take, length, refl, ap, ◌∙◌, arith}
use Rattle.std.proofs.lemmas.List.{get_or_append_left}
use Rattle.std.specs.Prelude.{slice_index_or}
use Rattle.mx_graph.specs.Record.{Row}
use Rattle.mx_graph.specs.StateMap.{State}
use Rattle.mx_receipt.specs.Receipt.{Kept, rows_of, kept_at, before_event, with_kept, states_after, state_before, state_before_next}
use Rattle.mx_receipt.specs.Judgements.{Judged, kept_of}

-- ---- lists

take-short : {A : Type 0} (xs ys : List A) (n : ℕ) → n ≤ length xs → take n (xs ++ ys) ≡ take n xs
take-short xs ys zero l = refl
take-short [] ys (suc n) l = absurd (omega arith)
take-short (x ∷ xs) ys (suc n) l = ap (λ zs. x ∷ zs) (take-short xs ys n (omega arith))

pub take-whole : {A : Type 0} (xs ys : List A) → take (length xs) (xs ++ ys) ≡ xs
take-whole [] ys = refl
take-whole (x ∷ xs) ys = ap (λ zs. x ∷ zs) (take-whole xs ys)

pub at-seam : {A : Type 0} (xs : List A) (y d : A) → slice_index_or (xs ++ y ∷ []) (length xs) d ≡ y
at-seam [] y d = refl
at-seam (x ∷ xs) y d = at-seam xs y d

-- ---- rows and verdicts

pub kept_of-push : (rows : List Row) (js : List Judged) (r : Row) (j : Judged) → length rows ≡ length js → kept_of (rows ++ r ∷ []) (js ++ j ∷ []) ≡ kept_of rows js ++ record { id = r.id; event = r.event; verdict = j.verdict } ∷ []
kept_of-push [] [] r j e = refl
kept_of-push [] (k ∷ js) r j e = absurd (omega arith)
kept_of-push (s ∷ rows) [] r j e = absurd (omega arith)
kept_of-push (s ∷ rows) (k ∷ js) r j e = ap (λ (ks : List Kept). record { id = s.id; event = s.event; verdict = k.verdict } ∷ ks) (kept_of-push rows js r j (omega arith))

pub kept_of-longer : (rows : List Row) (js : List Judged) (r : Row) → length rows ≡ length js → kept_of (rows ++ r ∷ []) js ≡ kept_of rows js
kept_of-longer [] [] r e = refl
kept_of-longer [] (k ∷ js) r e = absurd (omega arith)
kept_of-longer (s ∷ rows) [] r e = absurd (omega arith)
kept_of-longer (s ∷ rows) (k ∷ js) r e = ap (λ (ks : List Kept). record { id = s.id; event = s.event; verdict = k.verdict } ∷ ks) (kept_of-longer rows js r (omega arith))

pub kept_of-length : (rows : List Row) (js : List Judged) → length rows ≡ length js → length (kept_of rows js) ≡ length js
kept_of-length [] [] e = refl
kept_of-length [] (k ∷ js) e = absurd (omega arith)
kept_of-length (s ∷ rows) [] e = absurd (omega arith)
kept_of-length (s ∷ rows) (k ∷ js) e = ap suc (kept_of-length rows js (omega arith))

-- ---- states

module _ (kept : List Kept) (k : Kept) where
  states_after-short : (n : ℕ) → n ≤ length kept → states_after (kept ++ k ∷ []) n ≡ states_after kept n
  states_after-short zero l = refl
  states_after-short (suc n) l =
      let before : states_after (kept ++ k ∷ []) n ≡ states_after kept n = states_after-short n (omega arith) in
      let same : kept_at (kept ++ k ∷ []) n ≡ kept_at kept n = get_or_append_left kept (k ∷ []) _ n (omega arith) in
      let rows : take n (kept ++ k ∷ []) ≡ take n kept = take-short kept (k ∷ []) n (omega arith) in
      ap (λ (ks : List Kept). states_after (kept ++ k ∷ []) n ++ with_kept (before_event (rows_of ks) (states_after (kept ++ k ∷ []) n) (kept_at (kept ++ k ∷ []) n).event) (kept_at (kept ++ k ∷ []) n) n ∷ []) rows
      ∙ ap (λ (j : Kept). states_after (kept ++ k ∷ []) n ++ with_kept (before_event (rows_of (take n kept)) (states_after (kept ++ k ∷ []) n) j.event) j n ∷ []) same
      ∙ ap (λ (ss : List State). ss ++ with_kept (before_event (rows_of (take n kept)) ss (kept_at kept n).event) (kept_at kept n) n ∷ []) before

  pub states_after-push : states_after (kept ++ k ∷ []) (suc (length kept)) ≡ states_after kept (length kept) ++ with_kept (state_before_next kept k.event) k (length kept) ∷ []
  unfolding state_before_next
  states_after-push =
      let whole : take (length kept) (kept ++ k ∷ []) ≡ kept = take-whole kept (k ∷ []) in
      let last : kept_at (kept ++ k ∷ []) (length kept) ≡ k = at-seam kept k _ in
      let before : states_after (kept ++ k ∷ []) (length kept) ≡ states_after kept (length kept) = states_after-short (length kept) (omega arith) in
      ap (λ (ss : List State). ss ++ with_kept (before_event (rows_of (take (length kept) (kept ++ k ∷ []))) ss (kept_at (kept ++ k ∷ []) (length kept)).event) (kept_at (kept ++ k ∷ []) (length kept)) (length kept) ∷ []) before
      ∙ ap (λ (ks : List Kept). states_after kept (length kept) ++ with_kept (before_event (rows_of ks) (states_after kept (length kept)) (kept_at (kept ++ k ∷ []) (length kept)).event) (kept_at (kept ++ k ∷ []) (length kept)) (length kept) ∷ []) whole
      ∙ ap (λ (j : Kept). states_after kept (length kept) ++ with_kept (before_event (rows_of kept) (states_after kept (length kept)) j.event) j (length kept) ∷ []) last

  pub state_before-old : (p : ℕ) → p < length kept → state_before (kept ++ k ∷ []) p ≡ state_before kept p
  unfolding state_before
  state_before-old p l =
      ap (λ (ks : List Kept). before_event (rows_of ks) (states_after (kept ++ k ∷ []) p) (kept_at (kept ++ k ∷ []) p).event) (take-short kept (k ∷ []) p (omega arith))
      ∙ ap (λ (j : Kept). before_event (rows_of (take p kept)) (states_after (kept ++ k ∷ []) p) j.event) (get_or_append_left kept (k ∷ []) _ p l)
      ∙ ap (λ (ss : List State). before_event (rows_of (take p kept)) ss (kept_at kept p).event) (states_after-short p (omega arith))

  pub state_before-new : state_before (kept ++ k ∷ []) (length kept) ≡ state_before_next kept k.event
  unfolding state_before state_before_next
  state_before-new =
      ap (λ (ks : List Kept). before_event (rows_of ks) (states_after (kept ++ k ∷ []) (length kept)) (kept_at (kept ++ k ∷ []) (length kept)).event) (take-whole kept (k ∷ []))
      ∙ ap (λ (j : Kept). before_event (rows_of kept) (states_after (kept ++ k ∷ []) (length kept)) j.event) (at-seam kept k _)
      ∙ ap (λ (ss : List State). before_event (rows_of kept) ss k.event) (states_after-short (length kept) (omega arith))
