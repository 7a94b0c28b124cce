-- The redactions that name an event, without a row that is prepared.
use Rattle.std.proofs.Common.{◌≡◌, ◌<◌, ◌≤◌, ◌++◌, ℕ, Bool, true, false, cond, List, [], ◌∷◌, length, refl, sym, ap, subst, ◌∙◌, arith, Option, Some, None}
use Rattle.std.proofs.lemmas.List.{append-nil}
use Rattle.std.specs.Prelude.{option_to_list}
use Rattle.std.specs.List.{All}
use Rattle.mx_graph.specs.Record.{Row, events_where, names_id, names_in_redaction}
use Rattle.mx_graph.specs.Redactions.{with_event}
use Rattle.mx_graph.proofs.RedactionLemmas.{redactions-push, where-below}

-- what is left of some numbers without a last one from the count on
abbrev pub IsBelow : ℕ → List ℕ → List ℕ → Type 0
IsBelow count numbers below =
    ((earlier : List ℕ) (last : ℕ) → count ≤ last → numbers ≡ earlier ++ last ∷ [] → below ≡ earlier)
    × (All (λ n. n < count) numbers → below ≡ numbers)

pub kept-redactions : (rows kept : List Row) (next : Option Row) (id : List ℕ) (count : ℕ) (numbers below : List ℕ) → rows ≡ kept ++ option_to_list next → count ≡ length kept
    → numbers ≡ events_where rows (names_in_redaction rows id) → IsBelow count numbers below → below ≡ events_where kept (names_in_redaction kept id)
kept-redactions rows kept None id count numbers below are n named (last, all) =
    let same : numbers ≡ events_where kept (names_in_redaction kept id) = named ∙ ap (λ (rs : List Row). events_where rs (names_in_redaction rs id)) (are ∙ append-nil kept) in
    all (subst (λ c. All (λ m. m < c) numbers) (sym n) (subst (All (λ m. m < length kept)) (sym same) (where-below kept (names_in_redaction kept id)))) ∙ same
kept-redactions rows kept (Some r) id count numbers below are n named (last, all) = by (names_id id r.event) refl
  where
    same : numbers ≡ with_event r.event (length kept) id (events_where kept (names_in_redaction kept id))
    same = named ∙ ap (λ (rs : List Row). events_where rs (names_in_redaction rs id)) are ∙ redactions-push kept r id

    by : (b : Bool) → names_id id r.event ≡ b → below ≡ events_where kept (names_in_redaction kept id)
    by true e =
        last (events_where kept (names_in_redaction kept id)) (length kept) (omega arith)
        (same ∙ ap (λ b. cond b (events_where kept (names_in_redaction kept id) ++ length kept ∷ []) (events_where kept (names_in_redaction kept id))) e)
    by false e =
        let plain : numbers ≡ events_where kept (names_in_redaction kept id) =
        same ∙ ap (λ b. cond b (events_where kept (names_in_redaction kept id) ++ length kept ∷ []) (events_where kept (names_in_redaction kept id))) e in
        all (subst (λ c. All (λ m. m < c) numbers) (sym n) (subst (All (λ m. m < length kept)) (sym plain) (where-below kept (names_in_redaction kept id)))) ∙ plain
