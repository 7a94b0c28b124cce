-- Whether the rooms have an event, and whether the journal has it.
use Rattle.std.proofs.Common.{◌≡◌, ℕ, ◌<◌, ◌||◌, Bool, true, false, cond, List, [], ◌∷◌, length, get_or, filter, map, Some, refl, sym, ◌∙◌, ap, inl, inr}
use Rattle.std.specs.Prelude.{bytes_eq}
use Rattle.std.specs.List.{list_any}
use Rattle.std.specs.BTreeMap.{BTreeMap}
use Rattle.std.proofs.lemmas.Bool.{false≢true, cases_eq, ne_eqb}
use Rattle.std.proofs.lemmas.List.{get_or_default}
use Rattle.std.proofs.lemmas.List.Folds.{list_any_at, list_any_none, Any-from_list_any}
use Rattle.mx_graph.proofs.Closure.{one_answer, or_right}
use Rattle.mx_receipt.specs.Receipt.{Kept, kept_at}
use Rattle.mx_room.specs.RoomView.{RoomView, has_event}
use Rattle.mx_room.proofs.HeldLemmas.{has-place}
use Rattle.mx_shard.specs.Journal.{Entry, entries_of, record_by, record_of, has_id}
use Rattle.mx_shard.specs.Holders.{holder_of, may_hold, some_has, IsHolding}
use Rattle.mx_shard.specs.Inside.{no_room, room_at, rows_in, rows_at, entry_in, journal_of, IsWithin, IsIndexed}
use Rattle.mx_shard.specs.declared.holders.Holder.{Holder}
use Rattle.mx_shard.specs.declared.holders.Holder.TheVariants.{Room}
use Rattle.mx_shard.specs.declared.journal_places.JournalPlace.{JournalPlace}
use Rattle.mx_shard.proofs.LegalLaws.{known-is}
use Rattle.mx_shard.proofs.RoomLemmas.{distinct_of}

-- ---- the room that may hold an event is the one that does

module _ (holders : BTreeMap (List ℕ) Holder) (rooms : List RoomView) (id : List ℕ) (holding : IsHolding holders rooms) where
  -- a room that may not hold the event does not have it
  not_had : (n : ℕ) (d : RoomView) → n < length rooms → may_hold (holder_of holders id) n ≡ false → has_event (get_or rooms n d).kept id ≡ false
  not_had n d l e =
      elim (has_event (get_or rooms n d).kept id) as (λ b. has_event (get_or rooms n d).kept id ≡ b → b ≡ false) [
        | true ↦ λ has. absurd (false≢true (sym e ∙ holding n d id l has))
        | false ↦ λ none. refl
      ] refl

  pub none_has : ((n : ℕ) → n < length rooms → may_hold (holder_of holders id) n ≡ false) → some_has rooms id ≡ false
  none_has nobody = list_any_none (λ (room : RoomView). has_event room.kept id) rooms (λ n d l. not_had n d l (nobody n l))

  -- the room with this number, where only that one may hold it
  pub one_has : (n : ℕ) (d : RoomView) → n < length rooms → holder_of holders id ≡ Some (Room n) → some_has rooms id ≡ has_event (get_or rooms n d).kept id
  one_has n d l there =
      elim (has_event (get_or rooms n d).kept id) as (λ b. has_event (get_or rooms n d).kept id ≡ b → some_has rooms id ≡ b) [
        | true ↦ λ has. list_any_at (λ (room : RoomView). has_event room.kept id) rooms n d l has
        | false ↦ λ none. list_any_none (λ (room : RoomView). has_event room.kept id) rooms (λ m d' l'.
            elim (cases_eq m n) [
              | inl same ↦ ap (λ (room : RoomView). has_event room.kept id) (ap (λ k. get_or rooms k d') same ∙ get_or_default rooms n d' d l) ∙ none
              | inr other ↦ not_had m d' l' (ap (λ h. may_hold h m) there ∙ ne_eqb n m (λ e. other (sym e)))
            ])
      ] refl

-- ---- what the rooms have is what the journal has

any-map : {A B : Type 0} (t : B → Bool) (f : A → B) (xs : List A) → list_any t (map f xs) ≡ list_any (λ x. t (f x)) xs
any-map t f [] = refl
any-map t f (x ∷ xs) = ap (λ b. t (f x) || b) (any-map t f xs)

-- what is among some elements is among all
any-filter : {A : Type 0} (p q : A → Bool) (xs : List A) → list_any p (filter q xs) ≡ true → list_any p xs ≡ true
any-filter p q [] e = e
any-filter p q (x ∷ xs) e =
    elim (q x) as (λ b. list_any p (cond b (x ∷ filter q xs) (filter q xs)) ≡ true → (p x || list_any p xs) ≡ true) [
      | true ↦ λ f. elim (p x) as (λ b. (b || list_any p (filter q xs)) ≡ true → (b || list_any p xs) ≡ true) [
        | true ↦ λ g. refl
        | false ↦ λ g. any-filter p q xs g
      ] f
      | false ↦ λ f. or_right (p x) (list_any p xs) (any-filter p q xs f)
    ] e

-- the record of a room has the events of its entries
record-has : (journal : List Entry) (room id : List ℕ) → has_event (record_of journal room) id ≡ has_id (entries_of journal room) id
unfolding record_of
record-has journal room id = sym (has-place (record_by (entries_of journal room)) id) ∙ known-is (entries_of journal room) id

abbrev no_kept : Kept
no_kept = kept_at [] 0

module _ (rooms : List RoomView) (numbers : BTreeMap (List ℕ) ℕ) (places : List JournalPlace) (indexed : IsIndexed rooms numbers places) (id : List ℕ) where
  abbrev journal : List Entry
  journal = journal_of rooms places

  -- what a room has, an entry has
  entry_has : some_has rooms id ≡ true → has_id journal id ≡ true
  entry_has e =
      let some = Any-from_list_any (λ (room : RoomView). has_event room.kept id) rooms e in
      let room = get_or rooms some.0 some.1 in
      let kept : rows_in rooms room.id ≡ room.kept = ap rows_at (distinct_of numbers rooms indexed.numbered some.0 some.1 some.2) in
      let has : has_event (record_of journal room.id) id ≡ true =
      ap (λ ks. has_event ks id) (indexed.records room.id ∙ kept) ∙ ap (λ (r : RoomView). has_event r.kept id) some.3 ∙ some.4 in
      any-filter (λ (e : Entry). bytes_eq e.id id) (λ (e : Entry). bytes_eq e.room room.id) journal (sym (record-has journal room.id id) ∙ has)

  -- what an entry has, the room has where it stands
  room_has : has_id journal id ≡ true → some_has rooms id ≡ true
  room_has e =
      let some = Any-from_list_any (λ (p : JournalPlace). bytes_eq (entry_in (room_at rooms p.room) p).id id) places
      (sym (any-map (λ (e : Entry). bytes_eq e.id id) (λ (p : JournalPlace). entry_in (room_at rooms p.room) p) places) ∙ e) in
      let p = get_or places some.0 some.1 in
      let within : IsWithin rooms p = indexed.within some.0 some.1 some.2 in
      list_any_at (λ (room : RoomView). has_event room.kept id) rooms p.room no_room within.room
      (list_any_at (λ (k : Kept). bytes_eq k.id id) (room_at rooms p.room).kept p.row no_kept within.row
      (ap (λ (q : JournalPlace). bytes_eq (entry_in (room_at rooms q.room) q).id id) some.3 ∙ some.4))

  pub held-is : some_has rooms id ≡ has_id journal id
  held-is = one_answer (some_has rooms id) (has_id journal id) entry_has room_has
