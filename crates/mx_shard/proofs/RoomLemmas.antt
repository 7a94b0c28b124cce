-- The rooms of a shard: what is kept under each id, and what they show.
use Rattle.std.proofs.Common.{◌≡◌, ℕ, suc, ◌<◌, ◌≤◌, Bool, true, false, cond, List, [], ◌∷◌, ◌++◌, length, get_or, set, Option, Some, None, Bor, refl, sym, ◌∙◌, ap, subst, arith}
use Rattle.std.specs.Prelude.{All, IsTrue, find, is_ok, is_some, bytes_eq, nat_lt, option_map, IfSome, option_copied, Ok, Err}
use Rattle.std.specs.Option.{option_or}
use Rattle.std.specs.Cmp.Lexicographic.{slice_cmp, nat_list_cmp_total}
use Rattle.std.specs.Ordering.{nat_cmp, is_eq}
use Rattle.std.specs.BTreeMap.{BTreeMap}
use Rattle.std.proofs.lemmas.Bool.{false≢true, lt-ltb}
use Rattle.std.proofs.lemmas.List.{length-map, map_push}
use Rattle.std.proofs.lemmas.List.Elements.{All-head, All-tail}
use Rattle.std.proofs.lemmas.List.Folds.{find-append}
use Rattle.std.proofs.lemmas.Map.Text.{is_eq-slice_cmp}
use Rattle.std.proofs.lemmas.Slice.Eq.{bytes_eq-Decides}
use Rattle.mx_receipt.specs.Receipt.{Kept}
use Rattle.mx_room.specs.Queries.{room_named, Answered, given_or, event_shown, query_answer}
use Rattle.mx_room.specs.RoomView.{RoomView, IsHosted}
use Rattle.mx_room.specs.declared.queries.Query.{Query}
use Rattle.mx_room.specs.declared.queries.Query.TheVariants as ask
use Rattle.mx_room.specs.declared.queries.QueryReply.{QueryReply}
use Rattle.mx_room.specs.declared.queries.QueryReply.TheVariants as gives
use Rattle.mx_room.specs.declared.queries.Denied.TheVariants.{NotFound}
use Rattle.mx_shard.specs.LoneRoom.{to_ask, answer}
use Rattle.mx_shard.specs.Told.{tells_shown}
use Rattle.mx_shard.specs.Shown.{HasShown, IsShown}
use Rattle.mx_shard.specs.Inside.{room_ids, no_room, room_at, rows_at, rows_in, IsPlaced, IsNumbered, number_of, IsMoved, IsSameMap, IsDistinct, IsReady, IsIndexed, journal_of}
use Rattle.mx_shard.specs.Rooms.{AreRoomsOf}
use Rattle.mx_shard.specs.declared.journal_places.JournalPlace.{JournalPlace}
use Rattle.mx_shard.specs.declared.answers.Answer.TheVariants.{ToAsked}
use Rattle.mx_shard.proofs.Places.{IsFound, text_found, text_missing, text_once, placed_push, placed_same, find-set_other, map-set_same}

pub text-eq : (a b : List ℕ) → bytes_eq a b ≡ true → a ≡ b
text-eq a b = (bytes_eq-Decides a b).0

pub text-self : (a : List ℕ) → bytes_eq a a ≡ true
text-self a = (bytes_eq-Decides a a).1 refl

-- ---- a room that is found

pub distinct_of : (numbers : BTreeMap (List ℕ) ℕ) (rooms : List RoomView) → IsNumbered numbers rooms → IsDistinct rooms
distinct_of numbers rooms placed = text_once (λ (room : RoomView). room.id) rooms numbers placed

-- the rooms that a journal makes
pub rooms-are : (rooms : List RoomView) (numbers : BTreeMap (List ℕ) ℕ) (places : List JournalPlace) → IsIndexed rooms numbers places → AreRoomsOf (journal_of rooms places) rooms
rooms-are rooms numbers places indexed = record {
  ready = indexed.ready;
  distinct = distinct_of numbers rooms indexed.numbered;
  records = indexed.records;
}

pub room_found : (numbers : BTreeMap (List ℕ) ℕ) (rooms : List RoomView) (id : List ℕ) (n : ℕ) → IsNumbered numbers rooms → number_of numbers id ≡ Some n → IsFound (λ room. bytes_eq room.id id) rooms n
room_found numbers rooms id n placed h = text_found (λ (room : RoomView). room.id) rooms numbers placed id n h

pub room_missing : (numbers : BTreeMap (List ℕ) ℕ) (rooms : List RoomView) (id : List ℕ) → IsNumbered numbers rooms → number_of numbers id ≡ None → find (λ room. bytes_eq room.id id) rooms ≡ None
room_missing numbers rooms id placed h = text_missing (λ (room : RoomView). room.id) rooms numbers placed id h

-- a room that isn't found has no number
pub no_number : (numbers : BTreeMap (List ℕ) ℕ) (rooms : List RoomView) (id : List ℕ) → IsNumbered numbers rooms → find (λ room. bytes_eq room.id id) rooms ≡ None → number_of numbers id ≡ None
no_number numbers rooms id placed none =
    elim (number_of numbers id) as (λ o. number_of numbers id ≡ o → o ≡ None) [
      | None ↦ λ k. refl
      | Some n ↦ λ k. absurd (false≢true (ap is_some (sym none) ∙ ap is_some ((room_found numbers rooms id n placed k).found no_room)))
    ] refl

-- what a slice has at the number of a room
pub room_got : (r : Option (Bor RoomView)) (numbers : BTreeMap (List ℕ) ℕ) (rooms : List RoomView) (id : List ℕ) (n : ℕ) → IsNumbered numbers rooms → number_of numbers id ≡ Some n →
    is_some r ≡ nat_lt n (length rooms) → IfSome r (λ x. x.now ≡ get_or rooms n x.now) → option_copied r ≡ find (λ room. bytes_eq room.id id) rooms
room_got None numbers rooms id n placed h some at = absurd (false≢true (some ∙ lt-ltb n (length rooms) (room_found numbers rooms id n placed h).within))
room_got (Some x) numbers rooms id n placed h some at = ap (λ (y : RoomView). Some y) at ∙ sym ((room_found numbers rooms id n placed h).found x.now)

pub rows_found : (rooms : List RoomView) (id : List ℕ) (n : ℕ) → IsFound (λ room. bytes_eq room.id id) rooms n → rows_in rooms id ≡ (room_at rooms n).kept
rows_found rooms id n found = ap rows_at (found.found no_room)

pub id_found : (rooms : List RoomView) (id : List ℕ) (n : ℕ) → IsFound (λ room. bytes_eq room.id id) rooms n → (room_at rooms n).id ≡ id
id_found rooms id n found = text-eq (room_at rooms n).id id (found.passes no_room)

-- ---- what is kept under each id, after a change

or_nothing : (o : Option RoomView) → option_or o None ≡ o
or_nothing None = refl
or_nothing (Some r) = refl

pub rows_push : (rooms : List RoomView) (room : RoomView) (id : List ℕ) → find (λ r. bytes_eq r.id id) rooms ≡ None → room.id ≡ id → (q : List ℕ) → rows_in (rooms ++ room ∷ []) q ≡ cond (bytes_eq id q) room.kept (rows_in rooms q)
rows_push rooms room id none named q =
    ap rows_at (find-append (λ (r : RoomView). bytes_eq r.id q) rooms (room ∷ []))
    ∙ ap (λ i. rows_at (option_or (find (λ (r : RoomView). bytes_eq r.id q) rooms) (cond (bytes_eq i q) (Some room) None))) named
    ∙ elim (bytes_eq id q) as (λ b. bytes_eq id q ≡ b → rows_at (option_or (find (λ (r : RoomView). bytes_eq r.id q) rooms) (cond b (Some room) None)) ≡ cond b room.kept (rows_in rooms q)) [
      | true ↦ λ h. ap (λ o. rows_at (option_or o (Some room))) (ap (λ i. find (λ (r : RoomView). bytes_eq r.id i) rooms) (sym (text-eq id q h)) ∙ none)
      | false ↦ λ h. ap rows_at (or_nothing (find (λ (r : RoomView). bytes_eq r.id q) rooms))
    ] refl

pub rows_set : (rooms : List RoomView) (n : ℕ) (room : RoomView) (id : List ℕ) → IsFound (λ r. bytes_eq r.id id) rooms n → room.id ≡ id → (q : List ℕ) → rows_in (set rooms n room) q ≡ cond (bytes_eq id q) room.kept (rows_in rooms q)
rows_set rooms n room id found named q =
    elim (bytes_eq id q) as (λ b. bytes_eq id q ≡ b → rows_in (set rooms n room) q ≡ cond b room.kept (rows_in rooms q)) [
      | true ↦ λ h.
          subst (λ i. rows_in (set rooms n room) i ≡ room.kept) (text-eq id q h) (ap rows_at (found.replaced room ((bytes_eq-Decides room.id id).1 named)))
      | false ↦ λ h.
          let was : (get_or rooms n room).id ≡ id = text-eq (get_or rooms n room).id id (found.passes room) in
          ap rows_at (find-set_other (λ (r : RoomView). bytes_eq r.id q) rooms n room found.within (ap (λ i. bytes_eq i q) was ∙ h) (ap (λ i. bytes_eq i q) named ∙ h))
    ] refl

-- ---- the numbers, after a change

pub numbers_set : (numbers : BTreeMap (List ℕ) ℕ) (rooms : List RoomView) (n : ℕ) (room : RoomView) (id : List ℕ) → IsNumbered numbers rooms → IsFound (λ r. bytes_eq r.id id) rooms n → room.id ≡ id → IsNumbered numbers (set rooms n room)
numbers_set numbers rooms n room id placed found named =
    let was : (get_or rooms n room).id ≡ id = text-eq (get_or rooms n room).id id (found.passes room) in
    subst (λ ids. IsPlaced (slice_cmp nat_cmp) numbers ids) (sym (map-set_same (λ (r : RoomView). r.id) rooms n room (was ∙ sym named))) placed

pub numbers_push : (old new : BTreeMap (List ℕ) ℕ) (rooms : List RoomView) (room : RoomView) (id : List ℕ) → IsNumbered old rooms → find (λ r. bytes_eq r.id id) rooms ≡ None → room.id ≡ id →
    IsMoved old new id (Some (length rooms)) → IsNumbered new (rooms ++ room ∷ [])
numbers_push old new rooms room id placed none named moved =
    subst (λ ids. IsPlaced (slice_cmp nat_cmp) new ids) (ap (λ (i : List ℕ). room_ids rooms ++ i ∷ []) (sym named) ∙ sym (map_push (λ (r : RoomView). r.id) rooms room))
    (placed_push (slice_cmp nat_cmp) old new (room_ids rooms) id nat_list_cmp_total placed (no_number old rooms id placed none)
    (λ q. moved q ∙ ap (λ l. cond (is_eq (slice_cmp nat_cmp id q)) (Some l) (number_of old q)) (sym (length-map rooms (λ (r : RoomView). r.id)))))

pub numbers_same : (old new : BTreeMap (List ℕ) ℕ) (rooms : List RoomView) → IsNumbered old rooms → IsSameMap old new → IsNumbered new rooms
numbers_same old new rooms placed same = placed_same (slice_cmp nat_cmp) old new (room_ids rooms) placed same

-- a number that was added and taken away again
pub moved_back : (first second third : BTreeMap (List ℕ) ℕ) (id : List ℕ) (w : Option ℕ) → number_of first id ≡ None → IsMoved first second id w → IsMoved second third id None → IsSameMap first third
moved_back first second third id w none there back = λ q.
    back q ∙ ap (cond (is_eq (slice_cmp nat_cmp id q)) None) (there q)
    ∙ elim (is_eq (slice_cmp nat_cmp id q)) as (λ b. is_eq (slice_cmp nat_cmp id q) ≡ b → cond b None (cond b w (number_of first q)) ≡ number_of first q) [
      | true ↦ λ h. sym none ∙ ap (number_of first) (text-eq id q (sym (is_eq-slice_cmp id q) ∙ h))
      | false ↦ λ h. refl
    ] refl

-- ---- a query

-- a room that is found has an event
pub found_ready : (t : RoomView → Bool) (rooms : List RoomView) (room : RoomView) → All IsReady rooms → find t rooms ≡ Some room → IsReady room
found_ready t [] room ready e = absurd (cc e)
found_ready t (r ∷ rooms) room ready e =
    elim (t r) as (λ b. cond b (Some r) (find t rooms) ≡ Some room → IsReady room) [
      | true ↦ λ is. subst IsReady (let same : r ≡ room = cc in same) (All-head IsReady r rooms ready)
      | false ↦ λ is. found_ready t rooms room (All-tail IsReady r rooms ready) is
    ] e

ask_answer : (kept : List Kept) (origin : List ℕ) (now : ℕ) (q : Query) → IsHosted kept → answer kept (to_ask origin now q) ≡ ToAsked (query_answer kept origin now q)
ask_answer [] origin now q h = absurd (omega arith)
ask_answer (k ∷ ks) origin now q h = refl

-- of the room that it names
pub named_asked : (rooms : List RoomView) (id origin : List ℕ) (now : ℕ) (q : Query) (room : RoomView) → All IsReady rooms → Some room ≡ find (λ r. bytes_eq r.id id) rooms →
    ToAsked (query_answer room.kept origin now q) ≡ answer (rows_in rooms id) (to_ask origin now q)
named_asked rooms id origin now q room ready found =
    sym (ask_answer room.kept origin now q (found_ready (λ r. bytes_eq r.id id) rooms room ready (sym found)).hosted)
    ∙ ap (λ o. answer (rows_at o) (to_ask origin now q)) found

-- ---- by an id alone

none_given : (o : Option QueryReply) → is_ok (given_or NotFound o) ≡ false → given_or NotFound o ≡ Err NotFound
none_given None e = refl
none_given (Some reply) e = absurd (false≢true (sym e))

alone_none : (kept : List Kept) (origin : List ℕ) (now : ℕ) (q : Query) → room_named q ≡ None → (IsHosted kept → is_ok (query_answer kept origin now q) ≡ false) → answer kept (to_ask origin now q) ≡ ToAsked (Err NotFound)
unfolding query_answer
alone_none [] origin now (ask.Event id) e none = refl
alone_none (k ∷ ks) origin now (ask.Event id) e none = ap ToAsked (none_given (option_map gives.Event (event_shown (k ∷ ks) origin id)) (none (omega arith)))
alone_none kept origin now (ask.State r id) e none = absurd (cc e)
alone_none kept origin now (ask.StateIds r id) e none = absurd (cc e)
alone_none kept origin now (ask.EventAuth r id) e none = absurd (cc e)
alone_none kept origin now (ask.Backfill r from limit) e none = absurd (cc e)
alone_none kept origin now (ask.Missing r earliest latest limit min_depth) e none = absurd (cc e)
alone_none kept origin now (ask.MakeJoin r user versions) e none = absurd (cc e)

none_at : (rooms : List RoomView) (origin : List ℕ) (now : ℕ) (q : Query) → room_named q ≡ None → ((k : ℕ) (d : RoomView) → k < length rooms → is_ok (query_answer (get_or rooms k d).kept origin now q) ≡ false) → (room : List ℕ) →
    answer (rows_in rooms room) (to_ask origin now q) ≡ ToAsked (Err NotFound)
none_at [] origin now q alone h room = alone_none [] origin now q alone (λ hosted. absurd (omega arith))
none_at (r ∷ rooms) origin now q alone h room =
    elim (bytes_eq r.id room) as (λ b. answer (rows_at (cond b (Some r) (find (λ r. bytes_eq r.id room) rooms))) (to_ask origin now q) ≡ ToAsked (Err NotFound)) [
      | true ↦ alone_none r.kept origin now q alone (λ hosted. h 0 r (omega arith))
      | false ↦ none_at rooms origin now q alone (λ k d l. h (suc k) d (omega arith)) room
    ]

-- no room gives anything
pub shown_none : (rooms : List RoomView) (origin : List ℕ) (now : ℕ) (q : Query) (n : ℕ) → room_named q ≡ None → length rooms ≤ n →
    ((k : ℕ) (d : RoomView) → k < n → is_ok (query_answer (get_or rooms k d).kept origin now q) ≡ false) → IsShown (rows_in rooms) (to_ask origin now q) (ToAsked (Err NotFound))
shown_none rooms origin now q n alone l h = (refl, λ room. none_at rooms origin now q alone (λ k d m. h k d (omega arith)) room)

-- the room with this number gives something
module _ (rooms : List RoomView) (origin : List ℕ) (now : ℕ) (q : Query) (n : ℕ) (room : RoomView) (distinct : IsDistinct rooms) (ready : All IsReady rooms) (l : n < length rooms) (is : room ≡ get_or rooms n room) where
  shown_at : answer (rows_in rooms (get_or rooms n room).id) (to_ask origin now q) ≡ ToAsked (query_answer room.kept origin now q)
  shown_at =
      ap (λ kept. answer kept (to_ask origin now q)) (ap rows_at (distinct n room l) ∙ ap (λ (r : RoomView). r.kept) (sym is))
      ∙ ask_answer room.kept origin now q (subst IsReady (sym is) (ready n room l)).hosted

  pub shown_some : (reply : Answered) → reply ≡ query_answer room.kept origin now q → is_ok reply ≡ true → IsShown (rows_in rooms) (to_ask origin now q) (ToAsked reply)
  shown_some (Ok given) same ok = ((get_or rooms n room).id, shown_at ∙ ap ToAsked (sym same))
  shown_some (Err denied) same ok = absurd (false≢true ok)

  pub has_shown : IsTrue (is_ok (query_answer room.kept origin now q)) → HasShown (rows_in rooms) (to_ask origin now q) None
  has_shown ok = ((get_or rooms n room).id, ap tells_shown shown_at ∙ ok)
