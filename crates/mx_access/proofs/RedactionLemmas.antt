-- The redactions of an event, among those that name it whatever their verdicts.
use Rattle.std.proofs.Common.{◌≡◌, ◌<◌, ◌≤◌, ◌+◌, ℕ, zero, suc, Bool, true, false, cond, ◌&&◌, ◌||◌, List, [], ◌∷◌, length, drop, filter, codes, refl, sym, ap, ◌∙◌}
use Rattle.std.proofs.lemmas.List.{drop_more, drop_all}
use Rattle.std.specs.List.{list_any}
use Rattle.std.specs.Prelude.{slice_index_or}
use Rattle.mx_redact.specs.Fields.{is_text}
use Rattle.mx_pdu.specs.Event.{has_kind, redacts_of}
use Rattle.mx_graph.specs.Record.{event, row, events_where, names_id, names_in_redaction, places}
use Rattle.mx_receipt.specs.Receipt.{Kept, rows_of, kept_at, is_accepted}
use Rattle.mx_access.specs.Access.{is_effective, is_redacted, is_redaction_of, redactions_of}

-- it was accepted and is effective
abbrev pub takes_effect : List Kept → ℕ → ℕ → Bool
takes_effect kept p r = is_accepted (kept_at kept r).verdict && is_effective kept p r

event-at : (kept : List Kept) (r : ℕ) → event (rows_of kept) r ≡ (kept_at kept r).event
event-at [] r = refl
event-at (k ∷ kept) zero = refl
event-at (k ∷ kept) (suc r) = event-at kept r

and-false : (b : Bool) → false ≡ (b && false)
and-false true = refl
and-false false = refl

one-test : (a k t e : Bool) → ((a && k && t) && e) ≡ ((k && t) && (a && e))
one-test true k t e = refl
one-test false k t e = and-false (k && t)

any-filter : (e f : ℕ → Bool) (xs : List ℕ) → list_any e (filter f xs) ≡ list_any (λ x. f x && e x) xs
any-filter e f [] = refl
any-filter e f (x ∷ xs) = by (f x) (any-filter e f xs)
  where
    by : (b : Bool) → list_any e (filter f xs) ≡ list_any (λ y. f y && e y) xs → list_any e (cond b (x ∷ filter f xs) (filter f xs)) ≡ ((b && e x) || list_any (λ y. f y && e y) xs)
    by true later = ap (λ b. e x || b) later
    by false later = later

any-naming : (kept : List Kept) (p : ℕ) → list_any (takes_effect kept p) (events_where (rows_of kept) (names_in_redaction (rows_of kept) (kept_at kept p).id)) ≡ list_any (is_effective kept p) (redactions_of kept p)
any-naming kept p =
    any-filter (takes_effect kept p) (names_in_redaction (rows_of kept) (kept_at kept p).id) (places (rows_of kept))
    ∙ (λ i. list_any (λ r. same r i) (places (rows_of kept)))
    ∙ sym (any-filter (is_effective kept p) (is_redaction_of kept (kept_at kept p).id) (places (rows_of kept)))
  where
    same : (r : ℕ) → (names_in_redaction (rows_of kept) (kept_at kept p).id r && takes_effect kept p r) ≡ (is_redaction_of kept (kept_at kept p).id r && is_effective kept p r)
    same r =
        ap (λ e. names_id (kept_at kept p).id e && takes_effect kept p r) (event-at kept r)
        ∙ sym (one-test (is_accepted (kept_at kept r).verdict) (has_kind (codes "m.room.redaction") (kept_at kept r).event) (is_text (kept_at kept p).id (redacts_of (kept_at kept r).event)) (is_effective kept p r))

id-at : (kept : List Kept) (p : ℕ) → (row (rows_of kept) p).id ≡ (kept_at kept p).id
id-at [] p = refl
id-at (k ∷ kept) zero = refl
id-at (k ∷ kept) (suc p) = id-at kept p

pub any-named : (kept : List Kept) (p : ℕ) (id : List ℕ) → id ≡ (row (rows_of kept) p).id → (xs : List ℕ) → xs ≡ events_where (rows_of kept) (names_in_redaction (rows_of kept) id)
    → list_any (takes_effect kept p) xs ≡ is_redacted kept p
unfolding is_redacted
any-named kept p id same xs named =
    ap (list_any (takes_effect kept p)) (named ∙ ap (λ i. events_where (rows_of kept) (names_in_redaction (rows_of kept) i)) (same ∙ id-at kept p)) ∙ any-naming kept p

-- ---- a walk over them

pub any-next : (test : ℕ → Bool) (xs : List ℕ) (k x : ℕ) → k < length xs → x ≡ slice_index_or xs k x → list_any test (drop k xs) ≡ (test x || list_any test (drop (k + 1) xs))
any-next test xs k x l e = ap (list_any test) (drop_more xs k x l ∙ ap (λ y. y ∷ drop (k + 1) xs) (sym e))

pub any-end : (test : ℕ → Bool) (xs : List ℕ) (k : ℕ) → length xs ≤ k → list_any test (drop k xs) ≡ false
any-end test xs k l = ap (list_any test) (drop_all k xs l)
