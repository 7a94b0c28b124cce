-- A server as contracts see it.
use Rattle.std.specs.Prelude.{List}
use Rattle.mx_room.specs.Offer.{Offered}
use Rattle.mx_shard.specs.View.{ShardView}
use Rattle.mx_book.specs.View.{BookView}
use Rattle.mx_book.specs.declared.transaction_keys.TransactionKey.{TransactionKey}
use Rattle.mx_world.specs.declared.answers.Told.{Told}

-- a transaction that is open: the events that it has left, and what was told so far
pub record Progress : Type 0 where
  pub rest : List Offered
  pub told : List Told

-- its shards and its books by their places, and the transactions that are open, in the order of their keys
pub record WorldView (K L : Type 0) : Type 0 where
  pub shards : List (ShardView K)
  pub books : List (BookView L)
  pub going : List (TransactionKey × Progress)
