-- Worked journals, by computation: a transaction that is opened, opened again, kept and sent once more, and one that is given up and opened anew.
use Rattle.std.proofs.Common.{◌≡◌, ℕ, List, [], ◌∷◌, ◌++◌, codes, refl, true, false}
use Rattle.mx_book.specs.Journal.{free, begun, hold_of, opening_of, begins, is_legal, stored}
use Rattle.mx_book.specs.declared.transaction_keys.TransactionKey.{TransactionKey}
use Rattle.mx_book.specs.declared.entries.BookEntry.{BookEntry}
use Rattle.mx_book.specs.declared.entries.BookEntry.TheVariants.{Begun, Kept, GivenUp}
use Rattle.mx_book.specs.declared.openings.Opening.TheVariants as opening

abbrev first : TransactionKey
first = record { origin = codes "a"; txn = codes "t1" }

-- the same number of another server
abbrev other : TransactionKey
other = record { origin = codes "b"; txn = codes "t1" }

abbrev second : TransactionKey
second = record { origin = codes "a"; txn = codes "t2" }

abbrev bytes : List ℕ
bytes = codes "{}"

abbrev journal : List BookEntry
journal = Begun first 0 ∷ Begun other 7 ∷ Begun second 7 ∷ Kept first 0 bytes ∷ GivenUp second 7 ∷ []

-- what nobody opened is free, and opening it begins it
nothing_yet : (opening_of (hold_of [] first) ≡ opening.Fresh) × (begins first 0 (hold_of [] first) ≡ Begun first 0 ∷ [])
nothing_yet = (refl, refl)

-- opened again before its end it is busy, and nothing is added
busy : (opening_of (hold_of (Begun first 0 ∷ []) first) ≡ opening.Busy) × (begins first 7 (hold_of (Begun first 0 ∷ []) first) ≡ [])
busy = (refl, refl)

-- the number of one server is free at another
number_of_another : hold_of (Begun first 0 ∷ []) other ≡ free
number_of_another = refl

-- sent again after its end it gets the bytes that are kept
kept_bytes : (opening_of (hold_of journal first) ≡ opening.Kept bytes) × (begins first 7 (hold_of journal first) ≡ [])
kept_bytes = (refl, refl)

still_begun : hold_of journal other ≡ begun 7
still_begun = refl

-- what was given up may be begun anew
given_up : (opening_of (hold_of journal second) ≡ opening.Fresh) × (hold_of (journal ++ Begun second 2 ∷ []) second ≡ begun 2)
given_up = (refl, refl)

-- only what is kept is stored
one_row : stored journal ≡ record { origin = codes "a"; txn = codes "t1"; reply = bytes } ∷ []
one_row = refl

-- a kept transaction is not begun again, and who did not begin one does not end it
legal : (is_legal journal ≡ true) × (is_legal (journal ++ Begun first 0 ∷ []) ≡ false) × (is_legal (journal ++ Kept other 0 bytes ∷ []) ≡ false) × (is_legal (GivenUp first 0 ∷ []) ≡ false)
legal = (refl, refl, refl, refl)

-- a reply that was kept when the book was opened is the first entry of its transaction: not where it was begun, given up or kept before
first_entry : (is_legal (Kept first 0 bytes ∷ Kept other 0 bytes ∷ []) ≡ true) × (is_legal (Begun first 7 ∷ GivenUp first 7 ∷ Kept first 0 bytes ∷ []) ≡ false) × (is_legal (Kept first 0 bytes ∷ Kept first 0 bytes ∷ []) ≡ false) × (is_legal (Kept first 7 bytes ∷ []) ≡ false)
first_entry = (refl, refl, refl, refl)
