-- Which rooms of a shard may hold an event, for private clauses (our own).
use Rattle.std.specs.Prelude.{ℕ, ◌≡◌, ◌<◌, ◌==◌, Bool, true, false, List, length, get_or, cond, IsTrue, Option, Some, None}
use Rattle.std.specs.List.{list_any}
use Rattle.std.specs.BTreeMap.{BTreeMap, get}
use Rattle.std.specs.Cmp.Lexicographic.{slice_cmp}
use Rattle.std.specs.Ordering.{is_eq, nat_cmp}
use Rattle.mx_room.specs.RoomView.{RoomView, has_event}
use Rattle.mx_room.specs.declared.queries.Query.{Query}
use Rattle.mx_room.specs.declared.queries.Query.TheVariants as ask
use Rattle.mx_shard.specs.declared.holders.Holder.{Holder}
use Rattle.mx_shard.specs.declared.holders.Holder.TheVariants.{Room, Several}

-- who holds the event with this id
abbrev pub holder_of : BTreeMap (List ℕ) Holder → List ℕ → Option Holder
holder_of holders id = get (slice_cmp nat_cmp) holders id

-- the room with this number may be one that holds it
abbrev pub may_hold : Option Holder → ℕ → Bool
may_hold None n = false
may_hold (Some (Room m)) n = m == n
may_hold (Some Several) n = true

-- who holds it once the room with this number holds it too
abbrev pub holder_with : Option Holder → ℕ → Holder
holder_with None n = Room n
holder_with (Some h) n = Several

-- who holds it where the room that came last does not
abbrev pub holder_without : Option Holder → Option Holder
holder_without None = None
holder_without (Some (Room m)) = None
holder_without (Some Several) = Some Several

-- a map that has this at one id, and at all others what the old map has
abbrev pub IsHolderMoved : BTreeMap (List ℕ) Holder → BTreeMap (List ℕ) Holder → List ℕ → Option Holder → Type 0
IsHolderMoved old new id h = (other : List ℕ) → holder_of new other ≡ cond (is_eq (slice_cmp nat_cmp id other)) h (holder_of old other)

-- a map that has at each id what the old map has
abbrev pub IsSameHolder : BTreeMap (List ℕ) Holder → BTreeMap (List ℕ) Holder → Type 0
IsSameHolder old new = (id : List ℕ) → holder_of new id ≡ holder_of old id

-- no room is forgotten
abbrev pub IsHolderKept : BTreeMap (List ℕ) Holder → BTreeMap (List ℕ) Holder → Type 0
IsHolderKept old new = (id : List ℕ) (n : ℕ) → IsTrue (may_hold (holder_of old id) n) → IsTrue (may_hold (holder_of new id) n)

-- some room has an event with this id
abbrev pub some_has : List RoomView → List ℕ → Bool
some_has rooms id = list_any (λ room. has_event room.kept id) rooms

-- each room that has an event may be one that holds it
abbrev pub IsHolding : BTreeMap (List ℕ) Holder → List RoomView → Type 0
IsHolding holders rooms =
    (n : ℕ) (d : RoomView) (id : List ℕ) → n < length rooms → IsTrue (has_event (get_or rooms n d).kept id) → IsTrue (may_hold (holder_of holders id) n)

-- who holds the event that a query asks for by its id alone
abbrev pub holder_asked : BTreeMap (List ℕ) Holder → Query → Option Holder
holder_asked holders (ask.Event id) = holder_of holders id
holder_asked holders _ = None
