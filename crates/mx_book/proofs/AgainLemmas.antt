-- A book that is opened again over the rows of a journal.
use Rattle.std.proofs.Common.{◌≡◌, ℕ, Bool, true, false, IsTrue, List, [], ◌∷◌, ◌++◌, Option, None, Some, refl, sym, ◌∙◌, ap, subst, append_assoc, append-nil}
use Rattle.std.proofs.lemmas.Bool.{false≢true, and_parts}
use Rattle.std.proofs.lemmas.List.{map-append}
use Rattle.mx_keeper.specs.declared.rows.BookRow.{BookRow}
use Rattle.mx_book.specs.Transactions.{same}
use Rattle.mx_book.specs.Journal.{transaction_of, last_of, free, hold_after, hold_of, follows, is_legal, is_legal_after, stored, entry_of, reopened, after_stop}
use Rattle.mx_book.specs.declared.transaction_keys.TransactionKey.{TransactionKey}
use Rattle.mx_book.specs.declared.entries.BookEntry.{BookEntry}
use Rattle.mx_book.specs.declared.entries.BookEntry.TheVariants.{Begun, Kept, GivenUp}
use Rattle.mx_book.proofs.JournalLemmas.{same-eq, hold_of-here, hold_of-there, stored-push}
use Rattle.mx_book.proofs.StoredLemmas.{stored-begun, stored-given_up}

-- each transaction is known again as it was
abbrev IsKnown : List BookEntry → Type 0
IsKnown journal = (key : TransactionKey) → hold_of (reopened (stored journal)) key ≡ after_stop (hold_of journal key)

-- ---- what an entry may follow

before-begun : (last : Option BookEntry) (k : TransactionKey) (caller : ℕ) → follows last (Begun k caller) ≡ true → after_stop (hold_after last) ≡ free
before-begun None k caller h = refl
before-begun (Some (Begun own other)) k caller h = absurd (false≢true h)
before-begun (Some (Kept own other reply)) k caller h = absurd (false≢true h)
before-begun (Some (GivenUp own other)) k caller h = refl

before-given_up : (last : Option BookEntry) (k : TransactionKey) (caller : ℕ) → follows last (GivenUp k caller) ≡ true → after_stop (hold_after last) ≡ free
before-given_up None k caller h = absurd (false≢true h)
before-given_up (Some (Begun own other)) k caller h = refl
before-given_up (Some (Kept own other reply)) k caller h = absurd (false≢true h)
before-given_up (Some (GivenUp own other)) k caller h = absurd (false≢true h)

-- ---- one entry more

module _ (journal : List BookEntry) (known : IsKnown journal) where
  -- an entry that is not stored, and leaves its transaction free
  not-stored : (entry : BookEntry) → stored (journal ++ entry ∷ []) ≡ stored journal → after_stop (hold_of journal (transaction_of entry)) ≡ free → after_stop (hold_after (Some entry)) ≡ free → IsKnown (journal ++ entry ∷ [])
  not-stored entry stays was is key =
      ap (λ rows. hold_of (reopened rows) key) stays ∙ known key ∙ sym (by (same key (transaction_of entry)) refl)
    where
      by : (b : Bool) → same key (transaction_of entry) ≡ b → after_stop (hold_of (journal ++ entry ∷ []) key) ≡ after_stop (hold_of journal key)
      by true h = ap after_stop (hold_of-here journal entry key h) ∙ is ∙ sym (ap (λ p. after_stop (hold_of journal p)) (same-eq key (transaction_of entry) h) ∙ was)
      by false h = ap after_stop (hold_of-there journal entry key h)

  is-stored : (k : TransactionKey) (caller : ℕ) (reply : List ℕ) → IsKnown (journal ++ Kept k caller reply ∷ [])
  is-stored k caller reply key =
      ap (λ rows. hold_of (reopened rows) key) (stored-push journal entry)
      ∙ ap (λ es. hold_of es key) (map-append entry_of (stored journal) (row ∷ []))
      ∙ by (same key k) refl
    where
      entry : BookEntry
      entry = Kept k caller reply

      row : BookRow
      row = record { origin = k.origin; txn = k.txn; reply = reply }

      by : (b : Bool) → same key k ≡ b → hold_of (reopened (stored journal) ++ entry_of row ∷ []) key ≡ after_stop (hold_of (journal ++ entry ∷ []) key)
      by true h = hold_of-here (reopened (stored journal)) (entry_of row) key h ∙ sym (ap after_stop (hold_of-here journal entry key h))
      by false h = hold_of-there (reopened (stored journal)) (entry_of row) key h ∙ known key ∙ sym (ap after_stop (hold_of-there journal entry key h))

  one-more : (entry : BookEntry) → follows (last_of (transaction_of entry) journal) entry ≡ true → IsKnown (journal ++ entry ∷ [])
  one-more (Begun k caller) h = not-stored (Begun k caller) (stored-begun journal (journal ++ Begun k caller ∷ []) k caller refl) (before-begun (last_of k journal) k caller h) refl
  one-more (Kept k caller reply) h = is-stored k caller reply
  one-more (GivenUp k caller) h = not-stored (GivenUp k caller) (stored-given_up journal (journal ++ GivenUp k caller ∷ []) k caller refl) (before-given_up (last_of k journal) k caller h) refl

-- ---- all entries

all-more : (earlier entries : List BookEntry) → IsKnown earlier → is_legal_after earlier entries ≡ true → IsKnown (earlier ++ entries)
all-more earlier [] known h = subst IsKnown (sym (append-nil earlier)) known
all-more earlier (entry ∷ entries) known h =
    let parts = and_parts (follows (last_of (transaction_of entry) earlier) entry) (is_legal_after (earlier ++ entry ∷ []) entries) h in
    subst IsKnown (append_assoc earlier (entry ∷ []) entries) (all-more (earlier ++ entry ∷ []) entries (one-more earlier known entry parts.0) parts.1)

pub known-again : (journal : List BookEntry) → IsTrue (is_legal journal) → (key : TransactionKey) → hold_of (reopened (stored journal)) key ≡ after_stop (hold_of journal key)
known-again journal legal = all-more [] journal (λ _. refl) legal
