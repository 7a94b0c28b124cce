-- What always holds of a server's parts, for private clauses.
use Rattle.std.specs.Prelude.{ℕ, ◌≡◌, List, [], ◌∷◌, ◌++◌, Option, Some, None}
use Rattle.mx_receipt.specs.Receipt.{Kept}
use Rattle.mx_room.specs.Offer.{Offered}
use Rattle.mx_shard.specs.View.{ShardView}
use Rattle.mx_book.specs.Journal.{Hold, free, begun, kept}
use Rattle.mx_book.specs.View.{BookView}
use Rattle.mx_book.specs.declared.transaction_keys.TransactionKey.{TransactionKey}
use Rattle.mx_book.specs.declared.entries.BookEntry.{BookEntry}
use Rattle.mx_world.specs.Replies.{told_of}
use Rattle.mx_world.specs.Parts.{shard_places, book_places, ArePlaced}
use Rattle.mx_world.specs.View.{Progress}
use Rattle.mx_world.specs.Worlds.{holds_of, book_journals, found}
use Rattle.mx_world.specs.declared.answers.Told.{Told}
use Rattle.mx_world.specs.declared.callers.TheConstants.{SOLE_CALLER}

-- what is open was begun by the sole caller, and nothing else is begun and not ended
abbrev pub Agrees : Option Progress → Hold → Type 0
Agrees (Some progress) free = ⊥
Agrees (Some progress) (begun caller) = caller ≡ SOLE_CALLER
Agrees (Some progress) (kept reply) = ⊥
Agrees None free = Unit {0}
Agrees None (begun caller) = ⊥
Agrees None (kept reply) = Unit {0}

abbrev pub AllAgree : List (TransactionKey × Progress) → List (List BookEntry) → Type 0
AllAgree going journals = (p : TransactionKey) → Agrees (found going p) (holds_of journals p)

-- shards and books stand at their places, and the books agree with what is open
pub record IsSound {K L : Type 0} (shards : List (ShardView K)) (books : List (BookView L)) (going : List (TransactionKey × Progress)) : Type 0 where
  pub shards_placed : ArePlaced (shard_places shards)
  pub books_placed : ArePlaced (book_places books)
  pub agree : AllAgree going (book_journals books)

-- the state that opening a transaction leaves
abbrev pub opened : Hold → Hold
opened free = begun SOLE_CALLER
opened (begun caller) = begun caller
opened (kept reply) = kept reply

-- what one event more makes of a transaction that is open, where the rooms have these records
abbrev pub progress_after : (List ℕ → List Kept) → List ℕ → List Offered → List Told → Progress
progress_after rows origin [] told = record { rest = []; told = told }
progress_after rows origin (o ∷ rest) told = record { rest = rest; told = told ++ told_of rows origin o ∷ [] }

abbrev pub advanced : (List ℕ → List Kept) → List ℕ → Option Progress → Option Progress
advanced rows origin None = None
advanced rows origin (Some progress) = Some (progress_after rows origin progress.rest progress.told)
