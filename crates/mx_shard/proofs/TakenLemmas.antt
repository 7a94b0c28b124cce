-- A room that is taken out of a shard.
use Rattle.std.proofs.Common.{◌≡◌, ℕ, Bool, true, false, cond, List, [], ◌∷◌, Option, Some, None, refl, sym, ◌∙◌, ap}
use Rattle.std.specs.Prelude.{IfSome, bytes_eq, find}
use Rattle.std.specs.BTreeMap.{BTreeMap}
use Rattle.mx_room.specs.RoomView.{RoomView}
use Rattle.mx_shard.specs.Journal.{record_of}
use Rattle.mx_shard.specs.Inside.{IsIndexed, IsReady, journal_of, rows_at}
use Rattle.mx_shard.specs.declared.journal_places.JournalPlace.{JournalPlace}
use Rattle.mx_shard.proofs.RoomLemmas.{found_ready, text-eq}

found-passes : (t : RoomView → Bool) (rooms : List RoomView) (room : RoomView) → find t rooms ≡ Some room → t room ≡ true
found-passes t [] room e = absurd (cc e)
found-passes t (r ∷ rooms) room e =
    elim (t r) as (λ b. t r ≡ b → cond b (Some r) (find t rooms) ≡ Some room → t room ≡ true) [
      | true ↦ λ h is. ap t (let same : room ≡ r = cc (sym is) in same) ∙ h
      | false ↦ λ h is. found-passes t rooms room is
    ] refl e

module _ (rooms : List RoomView) (numbers : BTreeMap (List ℕ) ℕ) (places : List JournalPlace) (id : List ℕ) where
  pub room-taken : (r : Option RoomView) → IsIndexed rooms numbers places → r ≡ find (λ room. bytes_eq room.id id) rooms
      → IfSome r (λ room. room ≡ record { id = id; kept = record_of (journal_of rooms places) id; prepared = None })
  room-taken None indexed is = tt
  room-taken (Some room) indexed is =
      let named : room.id ≡ id = text-eq room.id id (found-passes (λ r. bytes_eq r.id id) rooms room (sym is)) in
      let kept : room.kept ≡ record_of (journal_of rooms places) id = ap rows_at is ∙ sym (indexed.records id) in
      let free : room.prepared ≡ None = (found_ready (λ r. bytes_eq r.id id) rooms room indexed.ready (sym is)).free in
      λ i. record { id = named i; kept = kept i; prepared = free i }

  pub none-taken : (r : Option RoomView) → IsIndexed rooms numbers places → r ≡ find (λ room. bytes_eq room.id id) rooms → r ≡ None → record_of (journal_of rooms places) id ≡ []
  none-taken r indexed is none = indexed.records id ∙ ap rows_at (sym is ∙ none)
