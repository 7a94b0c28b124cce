-- How many bytes may be held for clients, and whose connection is closed first where there is no room for more.
use Rattle.std.specs.Prelude.{ℕ, ◌+◌, Bool, nat_le, ◌||◌, if◌then◌else◌, List, [], ◌∷◌, Option, Some, None, IsSomeAnd, slice_get, set, ◌≡◌, false}
use Rattle.std.specs.List.{sum_by}
use Rattle.std.specs.Option.{option_or}
use Rattle.mx_http.specs.Places.{longer}
use Rattle.mx_http.specs.declared.places.giving_way.Wait.{Wait}
use Rattle.mx_http.specs.declared.memory.closing.Awaited.{Awaited}
use Rattle.mx_http.specs.declared.memory.closing.Awaited.TheVariants.{Client, Room}
use Rattle.mx_http.specs.declared.memory.closing.Holder.{Holder}
use Rattle.mx_http.specs.declared.memory.closing.Holder.TheVariants.{AwaitsClient, AwaitsRoom, Answered}
use Rattle.mx_http.specs.declared.memory.holdings.Holding.{Holding}

-- how many bytes are held
abbrev pub held_bytes : List Holding → ℕ
held_bytes holdings = sum_by (λ holding. holding.bytes) holdings

-- in this place is the holding with this number
abbrev pub IsNumberedAt : List Holding → ℕ → ℕ → Type 0
IsNumberedAt holdings place number = IsSomeAnd (slice_get holdings place) (λ holding. holding.number ≡ number)

-- the holding with this number, in this place, holds so many bytes now, of what began at this moment
abbrev pub IsChangedAt : List Holding → ℕ → ℕ → ℕ → ℕ → List Holding → Type 0
IsChangedAt old place number bytes moment new =
    IsSomeAnd (slice_get old place) (λ holding. (holding.number ≡ number)
    × (new ≡ set old place (record holding { bytes = bytes; since = moment; waits_for_room = false })))

-- of at most so many bytes so many are held, `own` of them by who wants more: these fit, or nobody else holds any
abbrev pub may_hold : ℕ → ℕ → ℕ → ℕ → Bool
may_hold most held own more = nat_le held own || nat_le (held + more) most

-- since when it is awaited
abbrev pub since : Awaited → Holder → Option ℕ
since Client (AwaitsClient moment) = Some moment
since Client (AwaitsRoom moment) = None
since Client Answered = None
since Room (AwaitsClient moment) = None
since Room (AwaitsRoom moment) = Some moment
since Room Answered = None

-- the longest wait of these, the first of which stands in this place
abbrev pub longest_from : Awaited → ℕ → List Holder → Option Wait
longest_from awaited place [] = None
longest_from awaited place (holder ∷ behind) = longer (since awaited holder) place (longest_from awaited (place + 1) behind)

-- the place of a wait that began at this moment at the latest
abbrev pub begun_by : ℕ → Option Wait → Option ℕ
begun_by latest None = None
begun_by latest (Some wait) = if nat_le wait.since latest then Some wait.place else None

-- The place of who is closed first: of whose client has been awaited longest, and where none has been for long enough, of who
-- has waited for room longest.
abbrev pub closed_first : ℕ → List Holder → Option ℕ
closed_first latest holders =
    option_or (begun_by latest (longest_from Client 0 holders)) (begun_by latest (longest_from Room 0 holders))
