use Rattle.std.proofs.Common.{◌≡◌, take}
use Rattle.std.specs.Prelude.{All}
use Rattle.mx_keeper.specs.Places.{place_number}
use Rattle.mx_pdu.specs.Event.{room_of}
use Rattle.mx_engine.proofs.event_places.are_all_at.Given as goal

-- so it is with those so far
abbrev pub invariant-loop-offered : goal.invariant-loop-offered
invariant-loop-offered l =
    All (λ o. place_number l.fn.place.count (room_of o.pdu) ≡ l.fn.place.number) (take l.offered-index l.fn.events)
