-- The clauses that the turns of a caller share, for private clauses (our own): each is said of what these turns are taken with.
use Rattle.std.specs.Prelude.{◌≡◌, ◌<◌, ℕ, List, length, get_or}
use Rattle.mx_dock.specs.declared.berths.Berth.{Berth}
use Rattle.mx_keeper.specs.declared.refusals.CallError.{CallError}
use Rattle.mx_room.specs.Offer.{Offered}
use Rattle.mx_shard.specs.Journal.{Entry}
use Rattle.mx_book.specs.Journal.{IsEnded}
use Rattle.mx_book.specs.declared.entries.BookEntry.{BookEntry}
use Rattle.mx_book.specs.declared.entries.BookEntry.TheVariants.{Kept, GivenUp}
use Rattle.mx_world.specs.declared.answers.Told.{Told}
use Rattle.mx_engine.specs.Views.{view_at, AreSameViews}
use Rattle.mx_engine.specs.Berths.{AreBerthsAt, AreBerthsAfter, views_of}
use Rattle.mx_engine.specs.BookTurns.{HasBegunIn, IsEndedIn}
use Rattle.mx_engine.specs.Transactions.{IsOffered, AreOffered, IsAborted}
use Rattle.mx_engine.specs.Jobs.{IsReady, IsRun}
use Rattle.mx_engine.specs.Seats.{shard_views, book_views}
use Rattle.mx_engine.specs.declared.docked.DockedShard.{DockedShard}
use Rattle.mx_engine.specs.declared.docked.DockedBook.{DockedBook}
use Rattle.mx_engine.specs.declared.calls.ShardTurns.{ShardTurns}
use Rattle.mx_engine.specs.declared.book_turns.BookTurns.{BookTurns}
use Rattle.mx_engine.specs.declared.offering.Offering.{Offering}
use Rattle.mx_engine.specs.declared.jobs.Job.{Job}
use Rattle.mx_engine.specs.declared.seats.Seat.{Seat}
use Rattle.mx_engine.specs.declared.transactions.Docks.{Docks}

-- ---- at the shards

module _ {R K G : Type 0} where
  -- these are the caller's berths at the docks of the shards
  abbrev pub AreAtShards : ShardTurns R K G → List (Berth (DockedShard K) Entry) → Type 0
  AreAtShards turns berths = AreBerthsAt turns.docks.now turns.caller berths

  -- and these, after what was done there with the old ones
  abbrev pub StayAtShards : ShardTurns R K G → List (Berth (DockedShard K) Entry) → List (Berth (DockedShard K) Entry) → Type 0
  StayAtShards turns old new = AreBerthsAfter turns.docks.now turns.caller old new

-- ---- at the books

module _ {R L : Type 0} where
  -- these are the caller's berths at the docks of the books
  abbrev pub AreAtBooks : BookTurns R L → List (Berth (DockedBook L) BookEntry) → Type 0
  AreAtBooks turns berths = AreBerthsAt turns.docks.now turns.caller berths

  -- and these, after what was done there with the old ones
  abbrev pub StayAtBooks : BookTurns R L → List (Berth (DockedBook L) BookEntry) → List (Berth (DockedBook L) BookEntry) → Type 0
  StayAtBooks turns old new = AreBerthsAfter turns.docks.now turns.caller old new

  -- by what it has seen, the caller has begun the transaction and not ended it
  abbrev pub HasBegunWith : BookTurns R L → List (Berth (DockedBook L) BookEntry) → Type 0
  HasBegunWith turns berths = HasBegunIn turns.caller turns.key.now (views_of berths)

  -- the transaction, which the caller has begun, was ended by an entry
  abbrev pub IsEndedWith : BookTurns R L → BookEntry → List (Berth (DockedBook L) BookEntry)
      → List (Berth (DockedBook L) BookEntry) → Type 0
  IsEndedWith turns end_ old new = IsEndedIn turns.caller turns.key.now end_ (views_of old) (views_of new)

  -- the entries that end it, with a reply and with none
  abbrev pub kept_by : BookTurns R L → List ℕ → BookEntry
  kept_by turns reply = Kept turns.key.now turns.caller reply

  abbrev pub given_up_by : BookTurns R L → BookEntry
  given_up_by turns = GivenUp turns.key.now turns.caller

-- ---- events that are offered

module _ {R K G : Type 0} where
  -- one event was offered, and this is told of it
  abbrev pub IsOfferedBy : Offering R K G → Offered → List (Berth (DockedShard K) Entry) → List (Berth (DockedShard K) Entry)
      → Told → Type 0
  IsOfferedBy offering o old new told =
      IsOffered offering.turns.caller offering.origin.now o (views_of old) (views_of new) told

  -- so each of these, in their order
  abbrev pub AreOfferedBy : Offering R K G → List Offered → List (Berth (DockedShard K) Entry)
      → List (Berth (DockedShard K) Entry) → List Told → Type 0
  AreOfferedBy offering events old new told =
      AreOffered offering.turns.caller offering.origin.now events (views_of old) (views_of new) told

  -- the events brought no reply
  abbrev pub IsAbortedBy : Offering R K G → List Offered → List (Berth (DockedShard K) Entry)
      → List (Berth (DockedShard K) Entry) → CallError → Type 0
  IsAbortedBy offering events old new error =
      IsAborted offering.turns.caller offering.origin.now events (views_of old) (views_of new) error

  -- a job before it is run, and after
  abbrev pub IsReadyFor : Offering R K G → List Offered → Job K → Type 0
  IsReadyFor offering events job = IsReady offering.turns.docks.now offering.turns.caller events job

  abbrev pub IsRunBy : Offering R K G → List Offered → Job K → Job K → Type 0
  IsRunBy offering events old new =
      IsRun offering.turns.docks.now offering.turns.caller offering.origin.now events old new

  -- so each of several jobs
  pub record AreRunBy (offering : Offering R K G) (events : List Offered) (old new : List (Job K)) : Type 0 where
    pub count : length new ≡ length old
    pub each : (n : ℕ) (d : Job K) → n < length old → IsRunBy offering events (get_or old n d) (get_or new n d)

-- ---- a caller's seat

module _ {R K L G : Type 0} where
  -- the seat is one at these docks
  pub record IsSeatAt (docks : Docks R K L G) (seat : Seat K L) : Type 0 where
    pub shards : AreBerthsAt docks.shards.now seat.number seat.shards.items
    pub books : AreBerthsAt docks.books.now seat.number seat.books.items

  -- so is this one, after what was done there with the old one
  pub record IsSeatAfter (docks : Docks R K L G) (old new : Seat K L) : Type 0 where
    pub shards : AreBerthsAt docks.shards.now new.number new.shards.items
    pub books : AreBerthsAt docks.books.now new.number new.books.items
    pub number : new.number ≡ old.number
    pub closed_shards : new.closed_shards ≡ old.closed_shards
    pub closed_books : new.closed_books ≡ old.closed_books
    pub same_shards : AreSameViews (shard_views old) (shard_views new)
    pub same_books : AreSameViews (book_views old) (book_views new)

module _ {K L : Type 0} where
  -- its caller has ended each transaction that it began
  abbrev pub HasEndedEach : Seat K L → Type 0
  HasEndedEach seat = (n : ℕ) → IsEnded (view_at (book_views seat) n).added
