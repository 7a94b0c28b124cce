-- The record that a longer journal makes of a room.
use Rattle.std.proofs.Common.{◌≡◌, ℕ, List, [], ◌∷◌, ◌++◌, map, refl, sym, ap, ◌∙◌, subst, append_assoc, append-nil}
use Rattle.std.specs.Prelude.{fold}
use Rattle.std.proofs.lemmas.List.{map-append}
use Rattle.std.proofs.lemmas.List.Sums.{fold-append}
use Rattle.mx_dock.specs.Journal.{IsPrefix}
use Rattle.mx_receipt.specs.Receipt.{Kept, received, begun, judged}
use Rattle.mx_shard.specs.Journal.{Entry, entries_of, record_by, record_of}
use Rattle.mx_shard.proofs.JournalLaws.{of_entry, entries-append}

-- a list to which each arrival adds one element
grown : {A B : Type 0} (step : List A → B → List A) → ((xs : List A) (b : B) → (a : A) × (step xs b ≡ xs ++ a ∷ []))
    → (xs : List A) (bs : List B) → IsPrefix xs (fold step xs bs)
grown step one xs [] = ([], sym (append-nil xs))
grown step one xs (b ∷ bs) =
    let here = one xs b in
    let later = grown step one (step xs b) bs in
    (here.0 ∷ later.0, later.1 ∙ ap (λ l. l ++ later.0) here.1 ∙ append_assoc xs (here.0 ∷ []) later.0)

by-longer : (es fs : List Entry) → IsPrefix (record_by es) (record_by (es ++ fs))
by-longer [] fs = (record_by fs, refl)
by-longer (e ∷ es) fs =
    let first : List Kept = begun e.id e.event in
    let later = grown received (λ kept a. (judged kept a.0 a.1, refl)) (fold received first (map of_entry es))
    (map of_entry fs) in (
      later.0,
      ap (fold received first) (map-append of_entry es fs)
          ∙ fold-append received first (map of_entry es) (map of_entry fs) ∙ later.1,
    )

pub record-longer : (seen journal : List Entry) → IsPrefix seen journal → (room : List ℕ)
    → IsPrefix (record_of seen room) (record_of journal room)
unfolding record_of
record-longer seen journal later room =
    let entries : entries_of journal room ≡ entries_of seen room ++ entries_of later.0 room =
    ap (λ l. entries_of l room) later.1 ∙ entries-append room seen later.0 in
    subst (λ l. IsPrefix (record_by (entries_of seen room)) (record_by l)) (sym entries)
    (by-longer (entries_of seen room) (entries_of later.0 room))
