-- Events that are offered one after the other, for private clauses (our own).
use Rattle.std.specs.Prelude.{◌≡◌, ◌<◌, ℕ, All, List, length, take}
use Rattle.mx_keeper.specs.Places.{place_number}
use Rattle.mx_pdu.specs.Event.{room_of}
use Rattle.mx_room.specs.Offer.{Offered}
use Rattle.mx_shard.specs.Journal.{Entry}
use Rattle.mx_world.specs.declared.answers.Told.{Told}
use Rattle.mx_engine.specs.Views.{BerthView, AddsNothing}
use Rattle.mx_engine.specs.Transactions.{AreOffered}

-- all events are of rooms of one shard, of so many
pub record AreOfOne (count : ℕ) (events : List Offered) : Type 0 where
  pub number : ℕ
  pub all : All (λ o. place_number count (room_of o.pdu) ≡ number) events

-- The events before a place were offered, each once and in their order. Of the others none was kept.
pub record FirstOffered (caller : ℕ) (origin : List ℕ) (events : List Offered)
    (old new : List (BerthView Entry)) : Type 0 where
  pub place : ℕ
  pub within : place < length events
  pub between : List (BerthView Entry)
  pub told : List Told
  pub offered : AreOffered caller origin (take place events) old between told
  pub nothing : AddsNothing between new
