-- The journal of a book, and what it says of each transaction (our own).
use Rattle.std.specs.Prelude.{ℕ, ◌==◌, ◌≢◌, Bool, true, false, ◌&&◌, List, [], ◌∷◌, ◌++◌, reverse, find, map, Option, Some, None}
use Rattle.std.specs.List.{filter_map, list_all}
use Rattle.mx_keeper.specs.Places.{PlaceView, is_at}
use Rattle.mx_keeper.specs.declared.rows.BookRow.{BookRow}
use Rattle.mx_book.specs.Transactions.{same}
use Rattle.mx_book.specs.declared.transaction_keys.TransactionKey.{TransactionKey}
use Rattle.mx_book.specs.declared.entries.BookEntry.{BookEntry}
use Rattle.mx_book.specs.declared.entries.BookEntry.TheVariants.{Begun, Kept, GivenUp}
use Rattle.mx_book.specs.declared.openings.Opening.{Opening}
use Rattle.mx_book.specs.declared.openings.Opening.TheVariants as opening

abbrev pub transaction_of : BookEntry → TransactionKey
transaction_of (Begun key caller) = key
transaction_of (Kept key caller reply) = key
transaction_of (GivenUp key caller) = key

-- the transaction's last entry
abbrev pub last_of : TransactionKey → List BookEntry → Option BookEntry
last_of key journal = find (λ entry. same key (transaction_of entry)) (reverse journal)

-- a transaction is free, begun by a caller and not ended, or its reply is kept
pub data Hold : Type 0 where
  free : Hold
  begun : (caller : ℕ) → Hold
  kept : (reply : List ℕ) → Hold

abbrev pub hold_after : Option BookEntry → Hold
hold_after None = free
hold_after (Some (Begun key caller)) = begun caller
hold_after (Some (Kept key caller reply)) = kept reply
hold_after (Some (GivenUp key caller)) = free

abbrev pub hold_of : List BookEntry → TransactionKey → Hold
hold_of journal key = hold_after (last_of key journal)

-- no transaction is begun and not ended
abbrev pub IsEnded : List BookEntry → Type 0
IsEnded journal = (key : TransactionKey) (caller : ℕ) → hold_of journal key ≢ begun caller

-- what opening a transaction answers (Matrix specification, Server-Server API, transactions: a number sent again gets the first reply)
abbrev pub opening_of : Hold → Opening
opening_of free = opening.Fresh
opening_of (begun caller) = opening.Busy
opening_of (kept reply) = opening.Kept reply

-- the entries that opening a transaction adds
abbrev pub begins : TransactionKey → ℕ → Hold → List BookEntry
begins key caller free = Begun key caller ∷ []
begins key caller (begun other) = []
begins key caller (kept reply) = []

-- the number of no caller: of a reply that was kept when the book was opened it is not known who began it
abbrev pub no_caller : ℕ
no_caller = 0

-- an entry may follow the last one of its transaction: it is begun where it has none, or was given up; who began it ends
-- it; a reply that was kept when the book was opened is its first entry; nothing follows a kept reply
abbrev pub follows : Option BookEntry → BookEntry → Bool
follows None (Begun key caller) = true
follows None (Kept key caller reply) = caller == no_caller
follows (Some (GivenUp own other)) (Begun key caller) = true
follows (Some (Begun own other)) (Kept key caller reply) = other == caller
follows (Some (Begun own other)) (GivenUp key caller) = other == caller
follows last entry = false

abbrev pub is_legal_after : List BookEntry → List BookEntry → Bool
is_legal_after earlier [] = true
is_legal_after earlier (entry ∷ entries) = follows (last_of (transaction_of entry) earlier) entry && is_legal_after (earlier ++ entry ∷ []) entries

-- each entry may follow those before it
abbrev pub is_legal : List BookEntry → Bool
is_legal journal = is_legal_after [] journal

-- the row that is stored of an entry
abbrev pub row_of : BookEntry → Option BookRow
row_of (Begun key caller) = None
row_of (Kept key caller reply) = Some (record { origin = key.origin; txn = key.txn; reply = reply })
row_of (GivenUp key caller) = None

-- the rows that are stored of a journal
abbrev pub stored : List BookEntry → List BookRow
stored journal = filter_map row_of journal

-- the reply that an entry keeps
abbrev pub reply_in : BookEntry → Option (List ℕ)
reply_in (Begun key caller) = None
reply_in (Kept key caller reply) = Some reply
reply_in (GivenUp key caller) = None

-- the replies that are kept, in order
abbrev pub replies_in : List BookEntry → List (List ℕ)
replies_in journal = filter_map reply_in journal

-- ---- opening a book again

-- the entry of a row that was found
abbrev pub entry_of : BookRow → BookEntry
entry_of row = Kept (record { origin = row.origin; txn = row.txn }) no_caller row.reply

-- the journal of the rows that were found
abbrev pub reopened : List BookRow → List BookEntry
reopened rows = map entry_of rows

-- what is known of a transaction when its book is opened again: a reply that was kept, and else nothing
abbrev pub after_stop : Hold → Hold
after_stop free = free
after_stop (begun caller) = free
after_stop (kept reply) = kept reply

-- a book at this place can have these rows: each is of a server of the place, and no transaction has two
abbrev pub can_reopen : PlaceView → List BookRow → Bool
can_reopen place rows = list_all (λ row. is_at place row.origin) rows && is_legal (reopened rows)
