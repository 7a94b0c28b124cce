-- For proofs and private clauses alone.
-- How a book finds what its journal says of a transaction.
use Rattle.std.specs.Prelude.{◌≡◌, ℕ, ◌<◌, Bool, IsTrue, true, false, List, length, All, slice_get, Option, Some, None}
use Rattle.std.specs.BTreeMap.{BTreeMap, get, btree_map_len}
use Rattle.mx_keeper.specs.Places.{PlaceView, is_at}
use Rattle.mx_book.specs.Transactions.{same, transaction_cmp}
use Rattle.mx_book.specs.Journal.{transaction_of, Hold, free, begun, kept, hold_after, hold_of, is_legal, replies_in}
use Rattle.mx_book.specs.declared.transaction_keys.TransactionKey.{TransactionKey}
use Rattle.mx_book.specs.declared.entries.BookEntry.{BookEntry}

-- the reply at a place
abbrev pub reply_at : List (List ℕ) → Option ℕ → Option (List ℕ)
reply_at replies None = None
reply_at replies (Some place) = slice_get replies place

-- kept with that reply, or free where there is none
abbrev pub hold_kept : Option (List ℕ) → Hold
hold_kept None = free
hold_kept (Some reply) = kept reply

-- what the reply at a place says
abbrev pub hold_at : List (List ℕ) → Option ℕ → Hold
hold_at replies place = hold_kept (reply_at replies place)

abbrev pub is_kept : Hold → Bool
is_kept free = false
is_kept (begun caller) = false
is_kept (kept reply) = true

abbrev pub hold_found : Option ℕ → Hold → Hold
hold_found None state = state
hold_found (Some caller) state = begun caller

-- a map that has this at one transaction (`None`: nothing), and at all others what the old map has
pub record IsMoved (old new : BTreeMap TransactionKey ℕ) (key : TransactionKey) (w : Option ℕ) : Type 0 where
  pub here : get transaction_cmp new key ≡ w
  pub there : (other : TransactionKey) → same other key ≡ false → get transaction_cmp new other ≡ get transaction_cmp old other

-- a map that has at each transaction what the old map has
abbrev pub IsSameMap : BTreeMap TransactionKey ℕ → BTreeMap TransactionKey ℕ → Type 0
IsSameMap old new = (key : TransactionKey) → get transaction_cmp new key ≡ get transaction_cmp old key

-- one map has the callers of what is begun and not ended, the other the places of the replies that are kept, which stand in the order of their entries
pub record IsIndexed (journal : List BookEntry) (callers places : BTreeMap TransactionKey ℕ) (replies : List (List ℕ)) : Type 0 where
  pub states : (key : TransactionKey) → hold_of journal key ≡ hold_found (get transaction_cmp callers key) (hold_at replies (get transaction_cmp places key))
  pub apart : (key : TransactionKey) (caller : ℕ) → get transaction_cmp callers key ≡ Some caller → get transaction_cmp places key ≡ None
  pub within : (key : TransactionKey) (place : ℕ) → get transaction_cmp places key ≡ Some place → place < length replies
  pub replied : (key : TransactionKey) (place : ℕ) → get transaction_cmp places key ≡ Some place → is_kept (hold_at replies (Some place)) ≡ true
  pub all : replies ≡ replies_in journal

-- all is of the book's own place, and each entry may follow those before it
pub record IsSound (journal : List BookEntry) (place : PlaceView) : Type 0 where
  pub here : All (λ entry. IsTrue (is_at place (transaction_of entry).origin)) journal
  pub legal : IsTrue (is_legal journal)

-- the journal of rows that were found, and the places of its replies; each entry is a reply, and no transaction is begun
pub record IsReopened (place : PlaceView) (journal : List BookEntry) (callers places : BTreeMap TransactionKey ℕ) (replies : List (List ℕ)) : Type 0 where
  pub indexed : IsIndexed journal callers places replies
  pub none : btree_map_len callers ≡ 0
  pub kept : All (λ entry. is_kept (hold_after (Some entry)) ≡ true) journal
  pub here : All (λ entry. IsTrue (is_at place (transaction_of entry).origin)) journal
  pub legal : IsTrue (is_legal journal)
