-- One turn at the dock of a book, for private clauses (our own).
use Rattle.std.specs.Prelude.{◌≡◌, ◌<◌, ℕ, List, [], ◌∷◌, length, Result, IfOk, OnOk, OnErr, IsTrue}
use Rattle.mx_dock.specs.Journal.{IsPrefix, since, entries_of}
use Rattle.mx_keeper.specs.declared.refusals.CallError.{CallError}
use Rattle.mx_book.specs.Journal.{hold_of, begun, begins, opening_of, is_legal}
use Rattle.mx_book.specs.declared.transaction_keys.TransactionKey.{TransactionKey}
use Rattle.mx_book.specs.declared.entries.BookEntry.{BookEntry}
use Rattle.mx_book.specs.declared.openings.Opening.{Opening}
use Rattle.mx_engine.specs.Places.{book_caller}
use Rattle.mx_engine.specs.Views.{BerthView, view_at, after_turn, turned, AddsNothing}
use Rattle.mx_engine.specs.Transactions.{book_number, IsFound}

-- The caller's own entries are those that it added, and by what it has seen it has begun the transaction and not ended it.
pub record HasBegun (caller : ℕ) (key : TransactionKey) (view : BerthView BookEntry) : Type 0 where
  pub begins : IsPrefix view.opening view.seen
  pub mine : entries_of book_caller caller (since view.opening view.seen) ≡ view.added
  pub is_begun : hold_of view.seen key ≡ begun caller

-- A book was opened for a transaction.
pub record IsOpened (caller : ℕ) (key : TransactionKey) (old new : BerthView BookEntry)
    (result : Result Opening CallError) : Type 0 where
  pub journal : List BookEntry
  pub legal : IsTrue (is_legal journal)
  pub later : IsPrefix old.seen journal
  pub opens : IsPrefix old.opening journal
  pub mine : entries_of book_caller caller (since old.opening journal) ≡ old.added
  pub reply : IfOk result (λ opening. opening ≡ opening_of (hold_of journal key))
  pub ok : OnOk result (new ≡ after_turn old journal (begins key caller (hold_of journal key)))
  pub err : OnErr result (new ≡ after_turn old journal [])

-- A transaction that this caller has begun was ended by an entry.
pub record IsEndedBy (caller : ℕ) (key : TransactionKey) (end_ : BookEntry) (old new : BerthView BookEntry) : Type 0 where
  pub journal : List BookEntry
  pub legal : IsTrue (is_legal journal)
  pub later : IsPrefix old.seen journal
  pub is_begun : hold_of journal key ≡ begun caller
  pub seen : new ≡ after_turn old journal (end_ ∷ [])

-- ---- told of all that the caller knows

-- by what it has seen of the transaction's book, the caller has begun the transaction and not ended it
abbrev pub HasBegunIn : ℕ → TransactionKey → List (BerthView BookEntry) → Type 0
HasBegunIn caller key views = HasBegun caller key (view_at views (book_number views key))

-- The transaction's book was opened for it.
pub record IsOpenedIn (caller : ℕ) (key : TransactionKey) (old new : List (BerthView BookEntry))
    (result : Result Opening CallError) : Type 0 where
  pub journal : List BookEntry
  pub within : book_number old key < length old
  pub found : IsFound old key journal
  pub reply : IfOk result (λ opening. opening ≡ opening_of (hold_of journal key))
  pub ok : OnOk result (new ≡ turned old (book_number old key) journal (begins key caller (hold_of journal key)))
  pub err : OnErr result (AddsNothing old new)

-- The transaction, which this caller has begun, was ended by an entry.
pub record IsEndedIn (caller : ℕ) (key : TransactionKey) (end_ : BookEntry)
    (old new : List (BerthView BookEntry)) : Type 0 where
  pub journal : List BookEntry
  pub found : IsFound old key journal
  pub is_begun : hold_of journal key ≡ begun caller
  pub seen : new ≡ turned old (book_number old key) journal (end_ ∷ [])
