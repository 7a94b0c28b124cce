-- What is read of the rooms of a shard.
use Rattle.std.proofs.Common.{◌≡◌, ℕ, ◌<◌, List, [], ◌++◌, length, get_or, set, append-nil, sym, ◌∙◌, ap, subst}
use Rattle.std.proofs.lemmas.List.{get_or-set_same, length-set}
use Rattle.crossbeam_utils.specs.declared.cache_padded.CachePadded.{CachePadded}
use Rattle.crossbeam_utils.specs.Padded.{padded_value}
use Rattle.mx_dock.specs.Journal.{IsPrefix, since}
use Rattle.mx_dock.specs.Dock.{number, own}
use Rattle.mx_dock.specs.declared.docks.Dock.{Dock}
use Rattle.mx_dock.specs.declared.berths.Berth.{Berth}
use Rattle.mx_keeper.specs.Places.{PlaceView}
use Rattle.mx_room.specs.RoomView.{RoomView}
use Rattle.mx_shard.specs.Journal.{Entry, IsLegal}
use Rattle.mx_shard.specs.Rooms.{AreRoomsOf}
use Rattle.mx_engine.specs.Views.{BerthView, view_at, after_turn}
use Rattle.mx_engine.specs.Berths.{AreBerthsAt, IsBerthAt, views_of}
use Rattle.mx_engine.specs.Calls.{IsRead}
use Rattle.mx_engine.specs.Calling.{IsReadTurn}
use Rattle.mx_engine.proofs.BerthLemmas.{seated_set}
use Rattle.mx_engine.proofs.TurnLemmas.{after-put, view_at-here}

-- one berth of a caller at one dock, by the berth's own number
module _ {T E : Type 0} (docks : List (CachePadded (Dock T E))) (caller : ℕ) (berths : List (Berth T E)) (n : ℕ)
    (at : PlaceView) (padded : CachePadded (Dock T E)) (dock : Dock T E) (old : Berth T E)
    (seated : AreBerthsAt docks caller berths) (l : n < length docks) (here : at.number ≡ n)
    (count : at.count ≡ length docks) (stands : get_or docks n padded ≡ padded) (is : dock ≡ padded_value padded)
    (stood : get_or berths n old ≡ old) where
  its_number : number old ≡ caller
  its_number = ap (λ (b : Berth T E). (own b).number) (sym stood) ∙ (seated.each n padded old l).numbered

  pub its_berth : IsBerthAt at dock (number old) old
  its_berth =
      let place : record { number = n; count = length docks } ≡ at =
      λ i. record { number = (sym here) i; count = (sym count) i } in
      subst (λ k. IsBerthAt at dock k old) (sym its_number)
      (subst (IsBerthAt at dock caller) stood
      (subst (λ (d : Dock T E). IsBerthAt at d caller (get_or berths n old)) (ap padded_value stands ∙ sym is)
      (subst (λ (p : PlaceView). IsBerthAt p (padded_value (get_or docks n padded)) caller (get_or berths n old)) place
      (seated.each n padded old l))))

  pub still_seated : (new : Berth T E) → IsBerthAt at dock (number old) new → AreBerthsAt docks caller (set berths n new)
  still_seated new now =
      seated_set docks caller berths n at padded dock new seated l here count stands is
      (subst (λ k. IsBerthAt at dock k new) its_number now)

module _ {A : Type 0} (Gives : List RoomView → A → Type 0) where
  -- the shard was taken, read, and put back
  pub read_turn : (old taken new : BerthView Entry) (journal : List Entry) (rooms : List RoomView) (told : A) →
      taken ≡ after_turn old journal [] → IsLegal journal → IsPrefix old.seen journal →
      (new.number ≡ taken.number) × (new.opening ≡ taken.opening) × (new.place ≡ taken.place) × (new.made ≡ taken.made) →
      new.seen ≡ journal → new.added ≡ taken.added ++ since taken.seen journal →
      AreRoomsOf journal rooms → Gives rooms told → IsReadTurn Gives old new told
  read_turn old taken new journal rooms told is legal later same seen more are gives = record {
    journal = journal;
    rooms = rooms;
    legal = legal;
    later = later;
    seen = after-put old taken new journal journal [] is same seen more (sym (append-nil journal));
    are = are;
    gives = gives;
  }

  -- so what is known of that shard is what was read
  pub read_here : {T : Type 0} (berths : List (Berth T Entry)) (n : ℕ) (old new : Berth T Entry) (told : A)
      → n < length berths →
      IsReadTurn Gives (own old) (own new) told → IsRead Gives (views_of (set berths n new)) n told
  read_here {T = T} berths n old new told l t =
      let k : n < length (set berths n new) = subst (λ m. n < m) (sym (length-set berths n new)) l in
      let there : (view_at (views_of (set berths n new)) n).seen ≡ t.journal =
      ap (λ (v : BerthView Entry). v.seen)
      (view_at-here (set berths n new) n new k ∙ ap own (get_or-set_same berths n new new l) ∙ t.seen)
      ∙ append-nil t.journal in
      record {
        rooms = t.rooms;
        legal = subst IsLegal (sym there) t.legal;
        are = subst (λ journal. AreRoomsOf journal t.rooms) (sym there) t.are;
        gives = t.gives;
      }
