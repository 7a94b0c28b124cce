-- Which rooms hold an event, after a change, and what they show of it.
use Rattle.std.proofs.Common.{◌≡◌, ℕ, ◌+◌, ◌<◌, Bool, true, false, cond, ◌||◌, List, [], ◌∷◌, ◌++◌, length, get_or, set, Option, Some, None, refl, sym, ◌∙◌, ap, subst, arith, length-append, inl, inr}
use Rattle.std.specs.Prelude.{IsTrue, All, bytes_eq, is_ok, option_map, option_and_then, Err}
use Rattle.std.specs.List.{position_from}
use Rattle.std.specs.BTreeMap.{BTreeMap}
use Rattle.std.specs.Cmp.Lexicographic.{slice_cmp}
use Rattle.std.specs.Ordering.{is_eq, nat_cmp}
use Rattle.std.proofs.lemmas.Bool.{false≢true, cases_eq, eq-eqb, ne_eqb}
use Rattle.std.proofs.lemmas.List.{get_or_default, get_or_append_left, get_or_push, get_or-set_same, get_or-set_other, length-set}
use Rattle.std.proofs.lemmas.List.Folds.{list_any-append}
use Rattle.std.proofs.lemmas.Iterator.Adapters.{position_from-zero}
use Rattle.std.proofs.lemmas.Map.Text.{is_eq-slice_cmp}
use Rattle.mx_graph.specs.Record.{Row, place_of}
use Rattle.mx_access.specs.Access.{shown}
use Rattle.mx_receipt.specs.Receipt.{Kept, is_rejected, rows_of}
use Rattle.mx_room.specs.Queries.{Answered, room_named, given_or, event_shown, query_answer}
use Rattle.mx_room.specs.RoomView.{RoomView, has_event}
use Rattle.mx_room.specs.declared.queries.Query.{Query}
use Rattle.mx_room.specs.declared.queries.Query.TheVariants as ask
use Rattle.mx_room.specs.declared.queries.QueryReply.{QueryReply}
use Rattle.mx_room.specs.declared.queries.QueryReply.TheVariants as gives
use Rattle.mx_room.specs.declared.queries.Denied.TheVariants.{NotFound}
use Rattle.mx_shard.specs.LoneRoom.{to_ask}
use Rattle.mx_shard.specs.Shown.{IsShown}
use Rattle.mx_shard.specs.Holders.{holder_of, may_hold, holder_with, holder_without, IsHolderMoved, IsSameHolder, IsHolderKept, IsHolding, holder_asked}
use Rattle.mx_shard.specs.Inside.{room_at, no_room, rows_in, IsDistinct, IsReady}
use Rattle.mx_shard.specs.declared.answers.Answer.TheVariants.{ToAsked}
use Rattle.mx_shard.specs.declared.holders.Holder.{Holder}
use Rattle.mx_shard.specs.declared.holders.Holder.TheVariants.{Room}
use Rattle.mx_shard.proofs.RoomLemmas.{text-eq, text-self, shown_none, shown_some}

-- ---- who may hold an event

more_hold : (h : Option Holder) (n m : ℕ) → may_hold h m ≡ true → may_hold (Some (holder_with h n)) m ≡ true
more_hold None n m e = absurd (false≢true e)
more_hold (Some h) n m e = refl

itself_holds : (h : Option Holder) (n : ℕ) → may_hold (Some (holder_with h n)) n ≡ true
itself_holds None n = eq-eqb n n refl
itself_holds (Some h) n = refl

as_before : (h : Option Holder) (n m : ℕ) → may_hold h m ≡ true → may_hold (holder_without (Some (holder_with h n))) m ≡ true
as_before None n m e = absurd (false≢true e)
as_before (Some h) n m e = refl

module _ (old new : BTreeMap (List ℕ) Holder) (id : List ℕ) where
  -- at the id, and at all others
  moved_both : (h : Option Holder) → IsHolderMoved old new id h → ((m : ℕ) → may_hold (holder_of old id) m ≡ true → may_hold h m ≡ true) → IsHolderKept old new
  moved_both h moved at q m e =
      elim (is_eq (slice_cmp nat_cmp id q)) as (λ b. is_eq (slice_cmp nat_cmp id q) ≡ b → may_hold (holder_of new q) m ≡ true) [
        | true ↦ λ is.
            let same : id ≡ q = text-eq id q (sym (is_eq-slice_cmp id q) ∙ is) in
            ap (λ w. may_hold w m) (moved q ∙ ap (λ b. cond b h (holder_of old q)) is)
            ∙ at m (ap (λ i. may_hold (holder_of old i) m) same ∙ e)
        | false ↦ λ is. ap (λ w. may_hold w m) (moved q ∙ ap (λ b. cond b h (holder_of old q)) is) ∙ e
      ] refl

  pub kept_with : (n : ℕ) → IsHolderMoved old new id (Some (holder_with (holder_of old id) n)) → IsHolderKept old new
  kept_with n moved = moved_both (Some (holder_with (holder_of old id) n)) moved (more_hold (holder_of old id) n)

  pub held_with : (h : Option Holder) → IsHolderMoved old new id h → holder_of new id ≡ h
  held_with h moved = moved id ∙ ap (λ b. cond b h (holder_of old id)) (is_eq-slice_cmp id id ∙ text-self id)

  pub now_held : (n : ℕ) → IsHolderMoved old new id (Some (holder_with (holder_of old id) n)) → IsTrue (may_hold (holder_of new id) n)
  now_held n moved = ap (λ w. may_hold w n) (held_with (Some (holder_with (holder_of old id) n)) moved) ∙ itself_holds (holder_of old id) n

pub kept_same : (old new : BTreeMap (List ℕ) Holder) → IsSameHolder old new → IsHolderKept old new
kept_same old new same q n e = ap (λ w. may_hold w n) (same q) ∙ e

-- nothing is to be taken away
pub left_alone : (holders : BTreeMap (List ℕ) Holder) (id : List ℕ) (h : Option Holder) → h ≡ holder_of holders id → holder_without h ≡ h → IsHolderMoved holders holders id (holder_without (holder_of holders id))
left_alone holders id h is stays q =
    elim (is_eq (slice_cmp nat_cmp id q)) as (λ b. is_eq (slice_cmp nat_cmp id q) ≡ b → holder_of holders q ≡ cond b (holder_without (holder_of holders id)) (holder_of holders q)) [
      | true ↦ λ e.
          ap (holder_of holders) (sym (text-eq id q (sym (is_eq-slice_cmp id q) ∙ e))) ∙ sym is ∙ sym stays ∙ ap holder_without is
      | false ↦ λ e. refl
    ] refl

-- added, and taken away again
pub kept_back : (old mid new : BTreeMap (List ℕ) Holder) (id : List ℕ) (n : ℕ) → IsHolderMoved old mid id (Some (holder_with (holder_of old id) n))
    → IsHolderMoved mid new id (holder_without (holder_of mid id)) → IsHolderKept old new
kept_back old mid new id n there back =
    let left : holder_without (holder_of mid id) ≡ holder_without (Some (holder_with (holder_of old id) n)) =
    ap holder_without (held_with old mid id (Some (holder_with (holder_of old id) n)) there) in
    moved_both old new id (holder_without (Some (holder_with (holder_of old id) n)))
    (λ q. back q
    ∙ (λ i. cond (is_eq (slice_cmp nat_cmp id q)) (left i) (there q i))
    ∙ elim (is_eq (slice_cmp nat_cmp id q)) as (λ b. cond b (holder_without (Some (holder_with (holder_of old id) n))) (cond b (Some (holder_with (holder_of old id) n)) (holder_of old q))
    ≡ cond b (holder_without (Some (holder_with (holder_of old id) n))) (holder_of old q)) [
      | true ↦ refl
      | false ↦ refl
    ])
    (as_before (holder_of old id) n)

-- ---- after a change of the rooms

pub holding_start : (holders : BTreeMap (List ℕ) Holder) (rooms : List RoomView) → rooms ≡ [] → IsHolding holders rooms
holding_start holders rooms none = λ n d id l e. absurd (let short : length rooms ≡ 0 = ap (λ (rs : List RoomView). length rs) none in omega arith)

pub holding_same : (old new : BTreeMap (List ℕ) Holder) (rooms rooms' : List RoomView) → IsHolding old rooms → IsHolderKept old new → rooms' ≡ rooms → IsHolding new rooms'
holding_same old new rooms rooms' holding kept same =
    subst (IsHolding new) (sym same) (λ n d id l e. kept id n (holding n d id l e))

or_either : (a b : Bool) → (a || b) ≡ true → (a ≡ false) → b ≡ true
or_either true b e f = absurd (false≢true (sym f))
or_either false b e f = e

-- one event more
has_more : (kept : List Kept) (k : Kept) (id : List ℕ) → has_event kept id ≡ false → has_event (kept ++ k ∷ []) id ≡ true → k.id ≡ id
has_more kept k id none e =
    let both : has_event kept id || has_event (k ∷ []) id ≡ true = sym (list_any-append (λ (x : Kept). bytes_eq x.id id) kept (k ∷ [])) ∙ e in
    text-eq k.id id (one (bytes_eq k.id id) (or_either (has_event kept id) (has_event (k ∷ []) id) both none))
  where
    one : (b : Bool) → b || false ≡ true → b ≡ true
    one true e = refl
    one false e = e

-- a room with one event
pub holding_push : (old new : BTreeMap (List ℕ) Holder) (rooms rooms' : List RoomView) (room : RoomView) (first : Kept) → IsHolding old rooms → IsHolderKept old new → rooms' ≡ rooms ++ room ∷ []
    → room.kept ≡ first ∷ [] → IsTrue (may_hold (holder_of new first.id) (length rooms)) → IsHolding new rooms'
holding_push old new rooms rooms' room first holding kept is own held =
    subst (IsHolding new) (sym is)
    (λ n d id l e.
    let long : length (rooms ++ room ∷ []) ≡ length rooms + 1 = length-append rooms (room ∷ []) in
    elim (cases_eq n (length rooms)) [
      | inl last ↦
          let here : get_or (rooms ++ room ∷ []) n d ≡ room = get_or_push rooms room d n (sym last) in
          let has : has_event (first ∷ []) id ≡ true = ap (λ ks. has_event ks id) (sym (ap (λ (r : RoomView). r.kept) here ∙ own)) ∙ e in
          let named : first.id ≡ id = has_more [] first id refl has in
          subst (λ i. IsTrue (may_hold (holder_of new i) n)) named (subst (λ m. IsTrue (may_hold (holder_of new first.id) m)) (sym last) held)
      | inr earlier ↦
          let below : n < length rooms = omega (arith, earlier, l, long) in
          kept id n (holding n d id below (subst (λ (r : RoomView). IsTrue (has_event r.kept id)) (get_or_append_left rooms (room ∷ []) d n below) e))
    ])

-- a room with one event more
pub holding_set : (old new : BTreeMap (List ℕ) Holder) (rooms rooms' : List RoomView) (number : ℕ) (room : RoomView) (k : Kept) → IsHolding old rooms → IsHolderKept old new → number < length rooms
    → rooms' ≡ set rooms number room → room.kept ≡ (room_at rooms number).kept ++ k ∷ [] → IsTrue (may_hold (holder_of new k.id) number) → IsHolding new rooms'
holding_set old new rooms rooms' number room k holding kept within is grown held =
    subst (IsHolding new) (sym is)
    (λ n d id l e.
    let below : n < length rooms = omega (arith, l, length-set rooms number room) in
    elim (cases_eq n number) [
      | inl here ↦
          let at : get_or (set rooms number room) n d ≡ room = ap (λ m. get_or (set rooms number room) m d) here ∙ get_or-set_same rooms number room d within in
          let has : has_event ((room_at rooms number).kept ++ k ∷ []) id ≡ true = ap (λ ks. has_event ks id) (sym (ap (λ (r : RoomView). r.kept) at ∙ grown)) ∙ e in
          elim (has_event (room_at rooms number).kept id) as (λ b. has_event (room_at rooms number).kept id ≡ b → IsTrue (may_hold (holder_of new id) n)) [
            | true ↦ λ was. subst (λ m. IsTrue (may_hold (holder_of new id) m)) (sym here) (kept id number (holding number no_room id within was))
            | false ↦ λ was. subst (λ i. IsTrue (may_hold (holder_of new i) n)) (has_more (room_at rooms number).kept k id was has) (subst (λ m. IsTrue (may_hold (holder_of new k.id) m)) (sym here) held)
          ] refl
      | inr other ↦ kept id n (holding n d id below (subst (λ (r : RoomView). IsTrue (has_event r.kept id)) (get_or-set_other rooms number n room d other) e))
    ])

-- ---- what is shown of an event by its id alone

abbrev row_by : Kept → Row
row_by k = record { id = k.id; event = k.event; rejected = is_rejected k.verdict }

no_place : (i : ℕ) (kept : List Kept) (id : List ℕ) → has_event kept id ≡ false → position_from (λ (r : Row). bytes_eq r.id id) i (rows_of kept) ≡ None
no_place i [] id e = refl
no_place i (k ∷ ks) id e =
    elim (bytes_eq k.id id) as (λ b. b || has_event ks id ≡ false → cond b (Some i) (position_from (λ (r : Row). bytes_eq r.id id) (i + 1) (rows_of ks)) ≡ None) [
      | true ↦ λ f. absurd (false≢true (sym f))
      | false ↦ λ f. no_place (i + 1) ks id f
    ] e

not_given : (kept : List Kept) (origin id : List ℕ) → place_of (rows_of kept) id ≡ None → is_ok (given_or NotFound (option_map gives.Event (event_shown kept origin id))) ≡ false
unfolding event_shown
not_given kept origin id none = ap (λ o. is_ok (given_or NotFound (option_map gives.Event (option_and_then (shown kept origin) o)))) none

given_denied : (o : Option QueryReply) → is_ok (given_or NotFound o) ≡ false → given_or NotFound o ≡ Err NotFound
given_denied None e = refl
given_denied (Some reply) e = absurd (false≢true (sym e))

-- the query asks for an event by its id alone
module _ (holders : BTreeMap (List ℕ) Holder) (rooms : List RoomView) (origin : List ℕ) (now : ℕ) (holding : IsHolding holders rooms) where
  -- a room that does not hold the event
  pub not_held : (q : Query) → room_named q ≡ None → (n : ℕ) (d : RoomView) → n < length rooms → may_hold (holder_asked holders q) n ≡ false → is_ok (query_answer (get_or rooms n d).kept origin now q) ≡ false
  unfolding query_answer
  not_held (ask.Event id) alone n d l e =
      elim (has_event (get_or rooms n d).kept id) as (λ b. has_event (get_or rooms n d).kept id ≡ b → is_ok (given_or NotFound (option_map gives.Event (event_shown (get_or rooms n d).kept origin id))) ≡ false) [
        | true ↦ λ has. absurd (false≢true (sym e ∙ holding n d id l has))
        | false ↦ λ none. not_given (get_or rooms n d).kept origin id (position_from-zero (λ (r : Row). bytes_eq r.id id) (rows_of (get_or rooms n d).kept) ∙ no_place 0 (get_or rooms n d).kept id none)
      ] refl
  not_held (ask.State r id) alone n d l e = absurd (cc alone)
  not_held (ask.StateIds r id) alone n d l e = absurd (cc alone)
  not_held (ask.EventAuth r id) alone n d l e = absurd (cc alone)
  not_held (ask.Backfill r from limit) alone n d l e = absurd (cc alone)
  not_held (ask.Missing r earliest latest limit min_depth) alone n d l e = absurd (cc alone)
  not_held (ask.MakeJoin r user versions) alone n d l e = absurd (cc alone)

  -- no room holds it
  pub shown_nowhere : (q : Query) → room_named q ≡ None → ((n : ℕ) → n < length rooms → may_hold (holder_asked holders q) n ≡ false) → IsShown (rows_in rooms) (to_ask origin now q) (ToAsked (Err NotFound))
  shown_nowhere q alone nobody = shown_none rooms origin now q (length rooms) alone (omega arith) (λ k d l. not_held q alone k d l (nobody k l))

  denied_alone : (q : Query) (kept : List Kept) → room_named q ≡ None → is_ok (query_answer kept origin now q) ≡ false → query_answer kept origin now q ≡ Err NotFound
  unfolding query_answer
  denied_alone (ask.Event id) kept alone e = given_denied (option_map gives.Event (event_shown kept origin id)) e
  denied_alone (ask.State r id) kept alone e = absurd (cc alone)
  denied_alone (ask.StateIds r id) kept alone e = absurd (cc alone)
  denied_alone (ask.EventAuth r id) kept alone e = absurd (cc alone)
  denied_alone (ask.Backfill r from limit) kept alone e = absurd (cc alone)
  denied_alone (ask.Missing r earliest latest limit min_depth) kept alone e = absurd (cc alone)
  denied_alone (ask.MakeJoin r user versions) kept alone e = absurd (cc alone)

  -- only the room with this number may hold it
  pub shown_there : (q : Query) (number : ℕ) (room : RoomView) (reply : Answered) → room_named q ≡ None → IsDistinct rooms → All IsReady rooms → holder_asked holders q ≡ Some (Room number)
      → number < length rooms → room ≡ get_or rooms number room → reply ≡ query_answer room.kept origin now q → IsShown (rows_in rooms) (to_ask origin now q) (ToAsked reply)
  shown_there q number room reply alone distinct ready there l is given =
      elim (is_ok reply) as (λ b. is_ok reply ≡ b → IsShown (rows_in rooms) (to_ask origin now q) (ToAsked reply)) [
        | true ↦ λ ok. shown_some rooms origin now q number room distinct ready l is reply given ok
        | false ↦ λ denied.
            let answer : query_answer room.kept origin now q ≡ Err NotFound = denied_alone q room.kept alone (ap is_ok (sym given) ∙ denied) in
            subst (λ (a : Answered). IsShown (rows_in rooms) (to_ask origin now q) (ToAsked a)) (sym (given ∙ answer))
            (shown_none rooms origin now q (length rooms) alone (omega arith)
            (λ k d m. elim (cases_eq k number) [
              | inl same ↦
                  let here : get_or rooms k d ≡ room = get_or_default rooms k d room m ∙ ap (λ n. get_or rooms n room) same ∙ sym is in
                  ap (λ (r : RoomView). is_ok (query_answer r.kept origin now q)) here ∙ ap is_ok answer
              | inr other ↦ not_held q alone k d m (ap (λ h. may_hold h k) there ∙ ne_eqb number k (λ e. other (sym e)))
            ]))
      ] refl
