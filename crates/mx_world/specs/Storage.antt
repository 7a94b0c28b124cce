-- Want of storage: for which shard or book a step is refused, and what becomes of the others (our own).
use Rattle.std.specs.Prelude.{ℕ, ◌≡◌, ◌≢◌, ◌<◌, ◌≤◌, ◌⊎◌, Bool, true, false, List, [], ◌∷◌, length, get_or, All, Option, Some, None, Err}
use Rattle.mx_keeper.specs.Keeping.{Rose}
use Rattle.mx_keeper.specs.Places.{place_number}
use Rattle.mx_pdu.specs.Event.{room_of}
use Rattle.mx_room.specs.Offer.{Offered}
use Rattle.mx_room.specs.Queries.{room_named}
use Rattle.mx_room.specs.declared.queries.Denied.TheVariants.{NotFound}
use Rattle.mx_shard.specs.LoneRoom.{Call, to_ask, answer}
use Rattle.mx_shard.specs.Journal.{record_of}
use Rattle.mx_shard.specs.View.{ShardView}
use Rattle.mx_shard.specs.declared.answers.Answer.TheVariants.{ToAsked}
use Rattle.mx_book.specs.View.{BookView}
use Rattle.mx_book.specs.declared.transaction_keys.TransactionKey.{TransactionKey}
use Rattle.mx_world.specs.Replies.{Status}
use Rattle.mx_world.specs.Moves.{rest_of}
use Rattle.mx_world.specs.View.{WorldView}
use Rattle.mx_world.specs.declared.steps.Step.{Step}
use Rattle.mx_world.specs.declared.steps.Step.TheVariants.{Host, Open, Next, Close, Join, Ask}

-- ---- one shard or book, by whether it is refused and how often its keeper has failed

-- it is refused, and it was before, or its keeper's count of failures rose
abbrev pub Fails : {V : Type 0} → (V → Bool) → (V → ℕ) → V → V → Type 0
Fails refused failed old new = (refused new ≡ true) × ((refused old ≡ true) ⊎ Rose (failed old) (failed new))

-- what is refused stays so, nothing is refused anew unless its keeper's count of failures rose, and no count falls
pub record Lasts {V : Type 0} (refused : V → Bool) (failed : V → ℕ) (old new : V) : Type 0 where
  pub stays : refused old ≡ true → refused new ≡ true
  pub cause : refused new ≡ true → (refused old ≡ true) ⊎ Rose (failed old) (failed new)
  pub counted : failed old ≤ failed new

-- ---- all shards, or all books, by their places

-- the one at the place of a name fails
abbrev pub FailsAt : {V : Type 0} → (V → Bool) → (V → ℕ) → List V → List V → List ℕ → Type 0
FailsAt {V = V} refused failed olds news name =
    (d : V) → Fails refused failed (get_or olds (place_number (length olds) name) d) (get_or news (place_number (length olds) name) d)

-- some one fails
abbrev pub SomeFails : {V : Type 0} → (V → Bool) → (V → ℕ) → List V → List V → Type 0
SomeFails {V = V} refused failed olds news =
    (n : ℕ) × (n < length olds) × ((d : V) → Fails refused failed (get_or olds n d) (get_or news n d))

-- at most the one at the place of a name changes; with no name none does
abbrev pub OnlyAt : {V : Type 0} → Option (List ℕ) → List V → List V → Type 0
OnlyAt None olds news = news ≡ olds
OnlyAt {V = V} (Some name) olds news =
    (n : ℕ) (d : V) → n ≢ place_number (length olds) name → get_or news n d ≡ get_or olds n d

pub record AllLast {V : Type 0} (refused : V → Bool) (failed : V → ℕ) (olds news : List V) : Type 0 where
  pub long : length news ≡ length olds
  pub each : (n : ℕ) (d : V) → Lasts refused failed (get_or olds n d) (get_or news n d)

-- ---- a server, by the functions that count its keepers' failures

abbrev pub ShardFails : {K : Type 0} → (K → ℕ) → List (ShardView K) → List (ShardView K) → List ℕ → Type 0
ShardFails failed = FailsAt (λ shard. shard.is_refused) (λ shard. failed shard.keeper)

abbrev pub SomeShardFails : {K : Type 0} → (K → ℕ) → List (ShardView K) → List (ShardView K) → Type 0
SomeShardFails failed = SomeFails (λ shard. shard.is_refused) (λ shard. failed shard.keeper)

abbrev pub ShardsLast : {K : Type 0} → (K → ℕ) → List (ShardView K) → List (ShardView K) → Type 0
ShardsLast failed = AllLast (λ shard. shard.is_refused) (λ shard. failed shard.keeper)

abbrev pub BookFails : {L : Type 0} → (L → ℕ) → List (BookView L) → List (BookView L) → List ℕ → Type 0
BookFails failed = FailsAt (λ book. book.is_refused) (λ book. failed book.keeper)

abbrev pub BooksLast : {L : Type 0} → (L → ℕ) → List (BookView L) → List (BookView L) → Type 0
BooksLast failed = AllLast (λ book. book.is_refused) (λ book. failed book.keeper)

-- the room of the next event
abbrev pub next_room : List Offered → Option (List ℕ)
next_room [] = None
next_room (o ∷ rest) = Some (room_of o.pdu)

-- the shard of the next event fails
abbrev pub NextFails : {K : Type 0} → (K → ℕ) → List (ShardView K) → List (ShardView K) → List Offered → Type 0
NextFails failed olds news [] = ⊥
NextFails failed olds news (o ∷ rest) = ShardFails failed olds news (room_of o.pdu)

-- no room of a shard shows what is asked
abbrev pub ShowsNothing : {K : Type 0} → Call → ShardView K → Type 0
ShowsNothing call shard = (room : List ℕ) → answer (record_of shard.journal room) call ≡ ToAsked (Err NotFound)

-- no shard shows it but one that is refused
abbrev pub OthersShowNothing : {K : Type 0} → Call → List (ShardView K) → Type 0
OthersShowNothing call shards = All (λ shard. shard.is_refused ≡ false → ShowsNothing call shard) shards

-- the shard of the room that a query names fails; for a query by an id alone some shard does, and no other one shows it
abbrev pub AskFails : {K : Type 0} → (K → ℕ) → List (ShardView K) → List (ShardView K) → Call → Option (List ℕ) → Type 0
AskFails failed olds news call None = SomeShardFails failed olds news × OthersShowNothing call news
AskFails failed olds news call (Some room) = ShardFails failed olds news room

-- the step's own shard or book fails: that of its room, or of its transaction's server; for a query by an id alone some
-- shard, and no other one shows it. The status is that before the step.
abbrev pub IsStorageFailure : {K L : Type 0} → (K → ℕ) → (L → ℕ) → (TransactionKey → Status) → WorldView K L → WorldView K L → Step → Type 0
IsStorageFailure f g status old new (Host o) = ShardFails f old.shards new.shards (room_of o.pdu)
IsStorageFailure f g status old new (Join origin o) = ShardFails f old.shards new.shards (room_of o.pdu)
IsStorageFailure f g status old new (Open p events) = BookFails g old.books new.books p.origin
IsStorageFailure f g status old new (Next p) = NextFails f old.shards new.shards (rest_of (status p))
IsStorageFailure f g status old new (Close p) = BookFails g old.books new.books p.origin
IsStorageFailure f g status old new (Ask origin now q) = AskFails f old.shards new.shards (to_ask origin now q) (room_named q)

-- the room whose shard a step may change, and the server whose book it may
abbrev pub own_room : (TransactionKey → Status) → Step → Option (List ℕ)
own_room status (Host o) = Some (room_of o.pdu)
own_room status (Join origin o) = Some (room_of o.pdu)
own_room status (Next p) = next_room (rest_of (status p))
own_room status step = None

abbrev pub own_server : Step → Option (List ℕ)
own_server (Open p events) = Some p.origin
own_server (Close p) = Some p.origin
own_server step = None

-- a step changes no shard or book but its own, so none is refused for a step of another
pub record ChangesOwn {K L : Type 0} (f : K → ℕ) (g : L → ℕ) (status : TransactionKey → Status) (old new : WorldView K L) (step : Step) : Type 0 where
  pub shards : OnlyAt (own_room status step) old.shards new.shards
  pub books : OnlyAt (own_server step) old.books new.books
  pub shards_last : ShardsLast f old.shards new.shards
  pub books_last : BooksLast g old.books new.books

-- ---- keepers that are taken

-- a keeper is refused: where it is ready and honest, it has rows or what does not read as rows
abbrev pub IsUnfit : {K Row : Type 0} → (K → Type 0) → (K → Type 0) → (K → Option (List Row)) → K → Type 0
IsUnfit is_ready honest rows keeper = is_ready keeper → honest keeper → rows keeper ≢ Some []

-- the keeper with this number is
abbrev pub UnfitAt : {K Row : Type 0} → (K → Type 0) → (K → Type 0) → (K → Option (List Row)) → List K → ℕ → Type 0
UnfitAt {K = K} is_ready honest rows keepers n = (n < length keepers) × ((d : K) → IsUnfit is_ready honest rows (get_or keepers n d))
