-- A shard's rooms and its journal, after a call.
use Rattle.std.proofs.Common.{◌≡◌, ℕ, ◌<◌, true, false, cond, IsTrue, List, [], ◌∷◌, ◌++◌, length, set, map, Option, Some, None, refl, sym, ◌∙◌, ap, subst, arith, length-append, append-nil, ◌⊎◌, inl, inr}
use Rattle.std.specs.Prelude.{All, IsTrue, bytes_eq, find, option_to_list}
use Rattle.std.specs.BTreeMap.{BTreeMap}
use Rattle.std.specs.Map.{lookup}
use Rattle.std.specs.Cmp.Lexicographic.{slice_cmp}
use Rattle.std.specs.Ordering.{is_eq, nat_cmp}
use Rattle.std.proofs.lemmas.Bool.{cases_eq}
use Rattle.std.proofs.lemmas.List.{get_or_append_left, get_or_push, get_or-set_same, get_or-set_other, map_push, length-set, set-set, set-get_or}
use Rattle.std.proofs.lemmas.List.Elements.{All-head, All-tail, All-append, All-map, All-push, All-set}
use Rattle.mx_keeper.specs.Keeping.{with_row}
use Rattle.mx_keeper.specs.Places.{PlaceView, is_at}
use Rattle.mx_keeper.specs.declared.rows.ShardRow.{ShardRow}
use Rattle.mx_pdu.specs.Event.{room_of}
use Rattle.mx_receipt.specs.Receipt.{Kept, kept_at}
use Rattle.mx_receipt.specs.declared.verdicts.Verdict.TheVariants.{Accepted}
use Rattle.mx_room.specs.Offer.{Offered}
use Rattle.mx_room.specs.RoomView.{RoomView}
use Rattle.mx_shard.specs.LoneRoom.{Call, call_room, to_host, answer, added, hosting, first_rows, sent_call}
use Rattle.mx_shard.specs.Told.{tells_kept}
use Rattle.mx_shard.specs.Journal.{Entry, entry_of, record_of, row_in, journal_after, stored, IsLegal}
use Rattle.mx_shard.specs.Holders.{IsHolderKept, IsHolding, holder_of, may_hold}
use Rattle.mx_shard.specs.Inside.{no_room, room_at, rows_at, rows_in, with_prepared, with_kept, IsReady, IsNumbered, IsMoved, IsSameMap, IsSound, entry_in, journal_of, IsWithin, IsIndexed}
use Rattle.mx_room.specs.Queries.{room_version}
use Rattle.mx_shard.proofs.StoredLemmas.{stored-push, version-stays}
use Rattle.mx_shard.specs.Changes.{IsAnswered, IsNewRoom, IsNewRow, row_for}
use Rattle.mx_shard.specs.declared.answers.Answer.{Answer}
use Rattle.mx_shard.specs.declared.answers.Answer.TheVariants.{Hosted}
use Rattle.mx_shard.specs.declared.holders.Holder.{Holder}
use Rattle.mx_shard.specs.declared.hosting.NewRoom.{NewRoom}
use Rattle.mx_shard.specs.declared.offering.NewRow.{NewRow}
use Rattle.mx_shard.specs.declared.sendings.Sending.{Sending}
use Rattle.mx_shard.specs.declared.journal_places.JournalPlace.{JournalPlace}
use Rattle.mx_shard.proofs.JournalLaws.{record-after, record-after-other}
use Rattle.mx_shard.proofs.LegalLaws.{legal-after}
use Rattle.mx_shard.proofs.HolderLemmas.{holding_set}
use Rattle.mx_shard.proofs.Places.{IsFound}
use Rattle.mx_shard.proofs.RoomLemmas.{text-eq, room_found, rows_found, id_found, rows_push, rows_set, numbers_push, numbers_set, numbers_same, no_number, moved_back}
use Rattle.mx_shard.proofs.ChangeLemmas.{sent_answers, sent_adds, sent_id, sent_kept}

-- ---- rooms that grow

-- what stands at a place stays
record Grows (before after : List RoomView) : Type 0 where
  same : (p : JournalPlace) → IsWithin before p → entry_in (room_at after p.room) p ≡ entry_in (room_at before p.room) p
  within : (p : JournalPlace) → IsWithin before p → IsWithin after p

grows-push : (rooms : List RoomView) (room : RoomView) → Grows rooms (rooms ++ room ∷ [])
grows-push rooms room = record {
  same = λ p w. ap (λ r. entry_in r p) (get_or_append_left rooms (room ∷ []) no_room p.room w.room);
  within = λ p w. record {
    room = let l : p.room < length rooms = w.room in omega (arith, length-append rooms (room ∷ []));
    row = subst (λ (r : RoomView). p.row < length r.kept) (sym (get_or_append_left rooms (room ∷ []) no_room p.room w.room)) w.row;
  };
}

entry-more : (old new : RoomView) (more : List Kept) (p : JournalPlace) → new.id ≡ old.id → new.kept ≡ old.kept ++ more → p.row < length old.kept → entry_in new p ≡ entry_in old p
entry-more old new more p named grown l =
    ap (λ id. entry_of id p.caller (kept_at new.kept p.row)) named
    ∙ ap (λ kept. entry_of old.id p.caller (kept_at kept p.row)) grown
    ∙ ap (entry_of old.id p.caller) (get_or_append_left old.kept more (kept_at [] p.row) p.row l)

grows-set : (rooms : List RoomView) (n : ℕ) (room : RoomView) (more : List Kept) → n < length rooms → room.id ≡ (room_at rooms n).id → room.kept ≡ (room_at rooms n).kept ++ more → Grows rooms (set rooms n room)
grows-set rooms n room more l named grown = record {
  same = λ p w. elim (cases_eq p.room n) [
    | inl e ↦
        let here : room_at (set rooms n room) p.room ≡ room = ap (room_at (set rooms n room)) e ∙ get_or-set_same rooms n room no_room l in
        let old : room_at rooms n ≡ room_at rooms p.room = ap (room_at rooms) (sym e) in
        ap (λ r. entry_in r p) here ∙ entry-more (room_at rooms n) room more p named grown (subst (λ (r : RoomView). p.row < length r.kept) (sym old) w.row) ∙ ap (λ r. entry_in r p) old
    | inr ne ↦ ap (λ r. entry_in r p) (get_or-set_other rooms n p.room room no_room ne)
  ];
  within = λ p w. record {
    room = let m : p.room < length rooms = w.room in omega (arith, length-set rooms n room);
    row = elim (cases_eq p.room n) [
      | inl e ↦
          let here : room_at (set rooms n room) p.room ≡ room = ap (room_at (set rooms n room)) e ∙ get_or-set_same rooms n room no_room l in
          let short : p.row < length (room_at rooms n).kept = subst (λ (r : RoomView). p.row < length r.kept) (ap (room_at rooms) e) w.row in
          let long : length room.kept ≡ length ((room_at rooms n).kept ++ more) = ap (λ (ks : List Kept). length ks) grown in
          subst (λ (r : RoomView). p.row < length r.kept) (sym here) (omega (arith, length-append (room_at rooms n).kept more))
      | inr ne ↦ subst (λ (r : RoomView). p.row < length r.kept) (sym (get_or-set_other rooms n p.room room no_room ne)) w.row
    ];
  };
}

journal-grows : (before after : List RoomView) → Grows before after → (places : List JournalPlace) → All (IsWithin before) places → journal_of after places ≡ journal_of before places
journal-grows before after grows [] within = refl
journal-grows before after grows (p ∷ ps) within =
    ap (λ e. e ∷ journal_of after ps) (grows.same p (All-head (IsWithin before) p ps within))
    ∙ ap (λ es. entry_in (room_at before p.room) p ∷ es) (journal-grows before after grows ps (All-tail (IsWithin before) p ps within))

all-grows : (before after : List RoomView) → Grows before after → (places : List JournalPlace) → All (IsWithin before) places → All (IsWithin after) places
all-grows before after grows places within = λ k d l. grows.within _ (within k d l)

-- ---- one entry more

-- the rooms and the journal have this entry more
pub record IsPushed (before after : List RoomView) (numbers : BTreeMap (List ℕ) ℕ) (places places' : List JournalPlace) (e : Entry) : Type 0 where
  pub indexed : IsIndexed after numbers places'
  pub journal : journal_of after places' ≡ journal_of before places ++ e ∷ []

-- in the journal with this entry the room has kept this event behind the others
abbrev pub RecordsMore : List RoomView → List JournalPlace → ℕ → List ℕ → Kept → Type 0
RecordsMore rooms places caller id k =
    (q : List ℕ) → record_of (journal_of rooms places ++ entry_of id caller k ∷ []) q ≡ cond (bytes_eq id q) (rows_in rooms id ++ k ∷ []) (rows_in rooms q)

module _ (before after : List RoomView) (numbers numbers' : BTreeMap (List ℕ) ℕ) (places : List JournalPlace) (p : JournalPlace) (caller : ℕ) (id : List ℕ) (k : Kept)
    (indexed : IsIndexed before numbers places) (grows : Grows before after) (numbered : IsNumbered numbers' after) (ready : All IsReady after) (here : IsWithin after p)
    (entry : entry_in (room_at after p.room) p ≡ entry_of id caller k) (rows : (q : List ℕ) → rows_in after q ≡ cond (bytes_eq id q) (rows_in before id ++ k ∷ []) (rows_in before q))
    (records : RecordsMore before places caller id k) where
  journal-pushed : journal_of after (places ++ p ∷ []) ≡ journal_of before places ++ entry_of id caller k ∷ []
  journal-pushed =
      map_push (λ (q : JournalPlace). entry_in (room_at after q.room) q) places p
      ∙ ap (λ es. es ++ entry_in (room_at after p.room) p ∷ []) (journal-grows before after grows places indexed.within)
      ∙ ap (λ e. journal_of before places ++ e ∷ []) entry

  index-pushed : IsPushed before after numbers' places (places ++ p ∷ []) (entry_of id caller k)
  index-pushed = record {
    indexed = record {
      numbered = numbered;
      ready = ready;
      within = All-push (IsWithin after) places p (all-grows before after grows places indexed.within) here;
      records = λ q. ap (λ js. record_of js q) journal-pushed ∙ records q ∙ sym (rows q);
    };
    journal = journal-pushed;
  }

-- a room with this event alone
abbrev pub room_with : List ℕ → Kept → RoomView
room_with id k = record { id = id; kept = k ∷ []; prepared = None }

-- a room more
module _ (before : List RoomView) (numbers : BTreeMap (List ℕ) ℕ) (places : List JournalPlace) (caller : ℕ) (id : List ℕ) (k : Kept) (indexed : IsIndexed before numbers places)
    (missing : find (λ room. bytes_eq room.id id) before ≡ None) where
  abbrev first_place : JournalPlace
  first_place = record { room = length before; row = 0; caller = caller }

  at-end : room_at (before ++ room_with id k ∷ []) (length before) ≡ room_with id k
  at-end = get_or_push before (room_with id k) no_room (length before) refl

  pub room-pushed : (numbers' : BTreeMap (List ℕ) ℕ) → IsMoved numbers numbers' id (Some (length before)) → RecordsMore before places caller id k →
      IsPushed before (before ++ room_with id k ∷ []) numbers' places (places ++ first_place ∷ []) (entry_of id caller k)
  room-pushed numbers' moved records =
      index-pushed before (before ++ room_with id k ∷ []) numbers numbers' places first_place caller id k indexed (grows-push before (room_with id k))
      (numbers_push numbers numbers' before (room_with id k) id indexed.numbered missing refl moved)
      (All-push IsReady before (room_with id k) indexed.ready (record { hosted = omega arith; free = refl }))
      (record {
        room = omega (arith, length-append before (room_with id k ∷ []));
        row = subst (λ (r : RoomView). 0 < length r.kept) (sym at-end) (omega arith);
      })
      (ap (λ r. entry_in r first_place) at-end)
      (λ q. rows_push before (room_with id k) id missing refl q ∙ ap (λ ks. cond (bytes_eq id q) (ks ++ k ∷ []) (rows_in before q)) (sym (ap rows_at missing)))
      records

-- a room with one event more
module _ (before : List RoomView) (numbers : BTreeMap (List ℕ) ℕ) (places : List JournalPlace) (caller : ℕ) (id : List ℕ) (n : ℕ) (k : Kept) (indexed : IsIndexed before numbers places)
    (found : IsFound (λ room. bytes_eq room.id id) before n) where
  abbrev last_place : JournalPlace
  last_place = record { room = n; row = length (room_at before n).kept; caller = caller }

  abbrev grown : RoomView
  grown = with_kept (room_at before n) (Some k)

  at-number : room_at (set before n grown) n ≡ grown
  at-number = get_or-set_same before n grown no_room found.within

  pub event-pushed : RecordsMore before places caller id k → IsPushed before (set before n grown) numbers places (places ++ last_place ∷ []) (entry_of id caller k)
  event-pushed records =
      index-pushed before (set before n grown) numbers numbers places last_place caller id k indexed (grows-set before n grown (k ∷ []) found.within refl refl)
      (numbers_set numbers before n grown id indexed.numbered found (id_found before id n found))
      (All-set IsReady before n grown (record { hosted = omega (arith, length-append (room_at before n).kept (k ∷ [])); free = refl }) indexed.ready)
      (record {
        room = let l : n < length before = found.within in omega (arith, length-set before n grown);
        row = subst (λ (r : RoomView). length (room_at before n).kept < length r.kept) (sym at-number) (omega (arith, length-append (room_at before n).kept (k ∷ [])));
      })
      (ap (λ r. entry_in r last_place) at-number
      ∙ ap (λ i. entry_of i caller (kept_at ((room_at before n).kept ++ k ∷ []) (length (room_at before n).kept))) (id_found before id n found)
      ∙ ap (entry_of id caller) (get_or_push (room_at before n).kept k (kept_at [] 0) (length (room_at before n).kept) refl))
      (λ q. rows_set before n grown id found (id_found before id n found) q ∙ ap (λ ks. cond (bytes_eq id q) (ks ++ k ∷ []) (rows_in before q)) (sym (rows_found before id n found)))
      records

-- ---- a call that adds an event

-- the rooms and the journal are as after the call
pub record IsAfter (before after : List RoomView) (numbers : BTreeMap (List ℕ) ℕ) (places places' : List JournalPlace) (caller : ℕ) (id : List ℕ) (call : Call) : Type 0 where
  pub indexed : IsIndexed after numbers places'
  pub journal : journal_of after places' ≡ journal_after (journal_of before places) caller id call

module _ (before : List RoomView) (numbers : BTreeMap (List ℕ) ℕ) (places : List JournalPlace) (caller : ℕ) (id : List ℕ) (call : Call) (k : Kept)
    (indexed : IsIndexed before numbers places) (adds : added (rows_in before id) call ≡ k ∷ []) where
  journal-called : journal_of before places ++ entry_of id caller k ∷ [] ≡ journal_after (journal_of before places) caller id call
  journal-called = ap (λ ks. journal_of before places ++ map (entry_of id caller) ks) (sym adds ∙ ap (λ rows. added rows call) (sym (indexed.records id)))

  records-called : RecordsMore before places caller id k
  records-called q =
      ap (λ js. record_of js q) journal-called
      ∙ elim (bytes_eq id q) as (λ b. bytes_eq id q ≡ b → record_of (journal_after (journal_of before places) caller id call) q ≡ cond b (rows_in before id ++ k ∷ []) (rows_in before q)) [
        | true ↦ λ h.
            subst (λ i. record_of (journal_after (journal_of before places) caller id call) i ≡ rows_in before id ++ k ∷ []) (text-eq id q h)
            (record-after (journal_of before places) caller id call ∙ ap (λ rows. rows ++ added rows call) (indexed.records id) ∙ ap (λ ks. rows_in before id ++ ks) adds)
        | false ↦ λ h. record-after-other (journal_of before places) caller id q call h ∙ indexed.records q
      ] refl

  called : (after : List RoomView) (numbers' : BTreeMap (List ℕ) ℕ) (places' : List JournalPlace) → IsPushed before after numbers' places places' (entry_of id caller k) → IsAfter before after numbers' places places' caller id call
  called after numbers' places' pushed = record { indexed = pushed.indexed; journal = pushed.journal ∙ journal-called }

-- ---- what is stored, and where

pub stored_after : (rows : Option (List ShardRow)) (journal : List Entry) (caller : ℕ) (id : List ℕ) (call : Call) (k : Kept) (row : ShardRow) → rows ≡ Some (stored journal) →
    added (record_of journal id) call ≡ k ∷ [] → row ≡ row_for id (room_version (record_of journal id ++ k ∷ [])) caller k → with_row rows row ≡ Some (stored (journal_after journal caller id call))
stored_after rows journal caller id call k row before adds is =
    let all : journal_after journal caller id call ≡ journal ++ entry_of id caller k ∷ [] = ap (λ ks. journal ++ map (entry_of id caller) ks) adds in
    let record_is : record_of (journal ++ entry_of id caller k ∷ []) id ≡ record_of journal id ++ k ∷ [] =
    ap (λ js. record_of js id) (sym all) ∙ record-after journal caller id call ∙ ap (λ ks. record_of journal id ++ ks) adds in
    let same : row ≡ row_in (journal ++ entry_of id caller k ∷ []) (entry_of id caller k) = is ∙ ap (λ ks. row_for id (room_version ks) caller k) (sym record_is) in
    ap (λ o. with_row o row) before
    ∙ ap (λ r. Some (stored journal ++ r ∷ [])) same
    ∙ ap (λ (rs : List ShardRow). Some rs) (sym (stored-push journal (entry_of id caller k)))
    ∙ ap (λ js. Some (stored js)) (sym all)

pub here_after : (place : PlaceView) (journal : List Entry) (caller : ℕ) (id : List ℕ) (call : Call) → IsTrue (is_at place id) → All (λ e. IsTrue (is_at place e.room)) journal →
    All (λ e. IsTrue (is_at place e.room)) (journal_after journal caller id call)
here_after place journal caller id call h here =
    All-append (λ (e : Entry). IsTrue (is_at place e.room)) journal (map (entry_of id caller) (added (record_of journal id) call)) here
    (All-map (λ (e : Entry). IsTrue (is_at place e.room)) (entry_of id caller) (added (record_of journal id) call) (λ k d l. h))

pub either_left : {P : Type 0} (left new given : Option (List ShardRow)) → P ⊎ (left ≡ new) → new ≡ given → P ⊎ (left ≡ given)
either_left left new given (inl was) e = inl was
either_left left new given (inr h) e = inr (h ∙ e)

-- nothing is added
pub journal_same : (journal : List Entry) (caller : ℕ) (id : List ℕ) (call : Call) → added (record_of journal id) call ≡ [] → journal ≡ journal_after journal caller id call
journal_same journal caller id call none = sym (ap (λ ks. journal ++ map (entry_of id caller) ks) none ∙ append-nil journal)

-- ---- what holds of a shard

no_record : (id : List ℕ) → record_of [] id ≡ []
unfolding record_of
no_record id = refl

-- no rooms
pub indexed_start : (rooms : List RoomView) (numbers : BTreeMap (List ℕ) ℕ) (places : List JournalPlace) → rooms ≡ [] → numbers.entries ≡ [] → places ≡ [] → IsIndexed rooms numbers places
indexed_start rooms numbers places no_rooms no_numbers no_places =
    subst (λ rs. IsIndexed rs numbers places) (sym no_rooms) (subst (IsIndexed [] numbers) (sym no_places) (record {
      numbered = record {
        each = λ id. ap (lookup (λ q. is_eq (slice_cmp nat_cmp id q))) no_numbers;
        once = λ n d l. absurd (omega arith);
      };
      ready = λ k d l. absurd (omega arith);
      within = λ k d l. absurd (omega arith);
      records = no_record;
    }))

module _ (place : PlaceView) (before after : List RoomView) (numbers numbers' : BTreeMap (List ℕ) ℕ) (places places' : List JournalPlace) (sound : IsSound place before numbers places) where
  pub journal_stays : after ≡ before → places' ≡ places → journal_of after places' ≡ journal_of before places
  journal_stays rooms ps = ap (λ rs. journal_of rs places') rooms ∙ ap (journal_of before) ps

  -- the rooms and the journal stay
  pub sound_same : after ≡ before → places' ≡ places → IsSameMap numbers numbers' → IsSound place after numbers' places'
  sound_same rooms ps same =
      subst (λ rs. IsSound place rs numbers' places') (sym rooms) (subst (IsSound place before numbers') (sym ps) (record {
        indexed = record {
          numbered = numbers_same numbers numbers' before sound.indexed.numbered same;
          ready = sound.indexed.ready;
          within = sound.indexed.within;
          records = sound.indexed.records;
        };
        here = sound.here;
        legal = sound.legal;
      }))

  pub sound_after : (caller : ℕ) (id : List ℕ) (call : Call) → call_room call ≡ Some id → IsTrue (is_at place id) → IsAfter before after numbers' places places' caller id call → IsSound place after numbers' places'
  sound_after caller id call own h later = record {
    indexed = later.indexed;
    here = subst (λ js. All (λ (e : Entry). IsTrue (is_at place e.room)) js) (sym later.journal) (here_after place (journal_of before places) caller id call h sound.here);
    legal = subst IsLegal (sym later.journal) (legal-after (journal_of before places) caller id call own sound.legal);
  }

  -- an answer that adds nothing
  pub answer_is : (id : List ℕ) (call : Call) (a : Answer) → IsAnswered (rows_in before id) call a → a ≡ answer (record_of (journal_of before places) id) call
  answer_is id call a told = told.answer ∙ ap (λ rows. answer rows call) (sym (sound.indexed.records id))

  pub journal_is_same : (caller : ℕ) (id : List ℕ) (call : Call) (a : Answer) → IsAnswered (rows_in before id) call a → journal_of before places ≡ journal_after (journal_of before places) caller id call
  journal_is_same caller id call a told = journal_same (journal_of before places) caller id call (ap (λ rows. added rows call) (sound.indexed.records id) ∙ told.nothing)

-- the entry of a room that was added at the end
pub place_after : (caller : ℕ) (rooms rooms' : List RoomView) (places places' after : List JournalPlace) → rooms ≡ rooms' → places ≡ places' → after ≡ places ++ record { room = length rooms; row = 0; caller = caller } ∷ [] →
    after ≡ places' ++ record { room = length rooms'; row = 0; caller = caller } ∷ []
place_after caller rooms rooms' places places' after e f is = is ∙ (λ i. f i ++ record { room = length (e i); row = 0; caller = caller } ∷ [])

-- ---- a room that is hosted

abbrev pub first : Offered → Kept
first o = record { id = o.id; event = o.pdu; verdict = Accepted }

module _ (before : List RoomView) (numbers : BTreeMap (List ℕ) ℕ) (places : List JournalPlace) (caller : ℕ) (o : Offered) (new : NewRoom)
    (indexed : IsIndexed before numbers places) (made : IsNewRoom before caller o new) where
  no_rows : rows_in before (room_of o.pdu) ≡ []
  no_rows = ap rows_at made.missing

  host_adds : added (rows_in before (room_of o.pdu)) (to_host o) ≡ first o ∷ []
  host_adds = ap (λ rows. added rows (to_host o)) no_rows ∙ ap (first_rows o) made.free

  pub host_reply : Hosted new.id ≡ answer (record_of (journal_of before places) (room_of o.pdu)) (to_host o)
  host_reply = ap Hosted made.id ∙ ap (hosting o) (sym made.free) ∙ ap (λ rows. answer rows (to_host o)) (sym (indexed.records (room_of o.pdu) ∙ no_rows))

  pub host_stored : (rows : Option (List ShardRow)) → rows ≡ Some (stored (journal_of before places)) → with_row rows new.row ≡ Some (stored (journal_after (journal_of before places) caller (room_of o.pdu) (to_host o)))
  host_stored rows is =
      stored_after rows (journal_of before places) caller (room_of o.pdu) (to_host o) (first o) new.row is (ap (λ rows. added rows (to_host o)) (indexed.records (room_of o.pdu)) ∙ host_adds)
      (made.row ∙ ap (λ ks. row_for (room_of o.pdu) (room_version (ks ++ first o ∷ [])) caller (first o)) (sym (indexed.records (room_of o.pdu) ∙ no_rows)))

  abbrev place_at_end : JournalPlace
  place_at_end = record { room = length before; row = 0; caller = caller }

  host_one : (numbers' : BTreeMap (List ℕ) ℕ) → IsMoved numbers numbers' (room_of o.pdu) (Some (length before)) →
      IsAfter before (before ++ room_with (room_of o.pdu) (first o) ∷ []) numbers' places (places ++ place_at_end ∷ []) caller (room_of o.pdu) (to_host o)
  host_one numbers' moved =
      called before numbers places caller (room_of o.pdu) (to_host o) (first o) indexed host_adds (before ++ room_with (room_of o.pdu) (first o) ∷ []) numbers' (places ++ place_at_end ∷ [])
      (room-pushed before numbers places caller (room_of o.pdu) (first o) indexed made.missing numbers' moved (records-called before numbers places caller (room_of o.pdu) (to_host o) (first o) indexed host_adds))

  pub host_after : (after : List RoomView) (numbers' : BTreeMap (List ℕ) ℕ) (key : List ℕ) (places' : List JournalPlace) → after ≡ before ++ new.room ∷ [] → key ≡ room_of o.pdu →
      IsMoved numbers numbers' key (Some (length before)) → places' ≡ places ++ place_at_end ∷ [] → IsAfter before after numbers' places places' caller (room_of o.pdu) (to_host o)
  host_after after numbers' key places' is named moved more =
      subst (λ rooms. IsAfter before rooms numbers' places places' caller (room_of o.pdu) (to_host o)) (sym (is ∙ ap (λ (r : RoomView). before ++ r ∷ []) made.room))
      (subst (λ ps. IsAfter before (before ++ room_with (room_of o.pdu) (first o) ∷ []) numbers' places ps caller (room_of o.pdu) (to_host o)) (sym more)
      (host_one numbers' (subst (λ i. IsMoved numbers numbers' i (Some (length before))) named moved)))

  -- the number was added and taken away again
  pub host_removed : (second third : BTreeMap (List ℕ) ℕ) (key key' : List ℕ) → key ≡ room_of o.pdu → key' ≡ room_of o.pdu → IsMoved numbers second key (Some (length before)) → IsMoved second third key' None → IsSameMap numbers third
  host_removed second third key key' named named' there back =
      moved_back numbers second third (room_of o.pdu) (Some (length before)) (no_number numbers before (room_of o.pdu) indexed.numbered made.missing)
      (subst (λ i. IsMoved numbers second i (Some (length before))) named there) (subst (λ i. IsMoved second third i None) named' back)

-- ---- an event that is kept

-- the entry of an event that was added to a room
pub place_kept : (n caller : ℕ) (rooms rooms' : List RoomView) (places places' after : List JournalPlace) → rooms ≡ rooms' → places ≡ places' →
    after ≡ places ++ record { room = n; row = length (room_at rooms n).kept; caller = caller } ∷ [] → after ≡ places' ++ record { room = n; row = length (room_at rooms' n).kept; caller = caller } ∷ []
place_kept n caller rooms rooms' places places' after e f is = is ∙ (λ i. f i ++ record { room = n; row = length (room_at (e i) n).kept; caller = caller } ∷ [])

module _ (before mid : List RoomView) (numbers : BTreeMap (List ℕ) ℕ) (places : List JournalPlace) (caller : ℕ) (s : Sending) (origin : List ℕ) (o : Offered) (new : NewRow)
    (indexed : IsIndexed before numbers places) (made : IsNewRow before mid numbers caller s origin o new) where
  abbrev old : RoomView
  old = room_at before new.number

  found : IsFound (λ room. bytes_eq room.id (room_of o.pdu)) before new.number
  found = room_found numbers before (room_of o.pdu) new.number indexed.numbered made.found

  own_rows : rows_in before (room_of o.pdu) ≡ old.kept
  own_rows = rows_found before (room_of o.pdu) new.number found

  is_ready : IsReady old
  is_ready = indexed.ready new.number no_room found.within

  offer_adds : added (rows_in before (room_of o.pdu)) (sent_call s origin o) ≡ made.kept ∷ []
  offer_adds =
      ap (λ rows. added rows (sent_call s origin o)) own_rows ∙ sym (sent_adds s old.kept origin o is_ready.hosted)
      ∙ ap option_to_list made.adds

  pub offer_reply : new.answer ≡ answer (record_of (journal_of before places) (room_of o.pdu)) (sent_call s origin o)
  offer_reply =
      made.answer ∙ sent_answers s old.kept origin o is_ready.hosted
      ∙ ap (λ rows. answer rows (sent_call s origin o)) (sym (indexed.records (room_of o.pdu) ∙ own_rows))

  pub offer_kept : IsTrue (tells_kept (answer (record_of (journal_of before places) (room_of o.pdu)) (sent_call s origin o)))
  offer_kept = ap tells_kept (sym offer_reply ∙ made.answer) ∙ sent_kept s old.kept origin o made.kept made.adds

  pub offer_stored : (rows : Option (List ShardRow)) → rows ≡ Some (stored (journal_of before places)) →
      with_row rows new.row ≡ Some (stored (journal_after (journal_of before places) caller (room_of o.pdu) (sent_call s origin o)))
  offer_stored rows is =
      stored_after rows (journal_of before places) caller (room_of o.pdu) (sent_call s origin o) made.kept new.row is
      (ap (λ rows. added rows (sent_call s origin o)) (indexed.records (room_of o.pdu)) ∙ offer_adds)
      (made.row
      ∙ ap (λ v. row_for (room_of o.pdu) v caller made.kept)
      (sym (version-stays old.kept (made.kept ∷ []) is_ready.hosted) ∙ ap (λ ks. room_version (ks ++ made.kept ∷ [])) (sym (indexed.records (room_of o.pdu) ∙ own_rows))))

  pub number_below : new.number < length mid
  number_below = let l : new.number < length before = found.within in subst (λ (rs : List RoomView). new.number < length rs) (sym made.rooms) (omega (arith, length-set before new.number (with_prepared old (Some made.kept))))

  prepared_at : room_at mid new.number ≡ with_prepared old (Some made.kept)
  prepared_at = ap (λ (rs : List RoomView). room_at rs new.number) made.rooms ∙ get_or-set_same before new.number (with_prepared old (Some made.kept)) no_room found.within

  -- given up, the rooms are as before
  pub discarded : (after : List RoomView) → after ≡ set mid new.number (with_prepared (room_at mid new.number) None) → after ≡ before
  discarded after is =
      is ∙ ap (λ (r : RoomView). set mid new.number (with_prepared r None)) prepared_at
      ∙ ap (λ (rs : List RoomView). set rs new.number (with_prepared old None)) made.rooms
      ∙ set-set before new.number (with_prepared old (Some made.kept)) (with_prepared old None)
      ∙ ap (λ x. set before new.number (with_prepared old x)) (sym is_ready.free)
      ∙ set-get_or before new.number no_room

  abbrev with_new : RoomView
  with_new = with_kept old (Some made.kept)

  abbrev place_behind : JournalPlace
  place_behind = record { room = new.number; row = length old.kept; caller = caller }

  offer_one : IsAfter before (set before new.number with_new) numbers places (places ++ place_behind ∷ []) caller (room_of o.pdu) (sent_call s origin o)
  offer_one =
      called before numbers places caller (room_of o.pdu) (sent_call s origin o) made.kept indexed offer_adds (set before new.number with_new) numbers (places ++ place_behind ∷ [])
      (event-pushed before numbers places caller (room_of o.pdu) new.number made.kept indexed found (records-called before numbers places caller (room_of o.pdu) (sent_call s origin o) made.kept indexed offer_adds))

  grown_rooms : (after : List RoomView) → after ≡ set mid new.number (with_kept (room_at mid new.number) (room_at mid new.number).prepared) → after ≡ set before new.number with_new
  grown_rooms after is =
      is ∙ ap (λ (r : RoomView). set mid new.number (with_kept r r.prepared)) prepared_at
      ∙ ap (λ (rs : List RoomView). set rs new.number with_new) made.rooms
      ∙ set-set before new.number (with_prepared old (Some made.kept)) with_new

  -- the event is one of the room that may hold it
  pub offer_holding : (after : List RoomView) (holders holders' : BTreeMap (List ℕ) Holder) → after ≡ set mid new.number (with_kept (room_at mid new.number) (room_at mid new.number).prepared) →
      IsHolding holders before → IsHolderKept holders holders' → IsTrue (may_hold (holder_of holders' o.id) new.number) → IsHolding holders' after
  offer_holding after holders holders' is holding kept held =
      holding_set holders holders' before after new.number with_new made.kept holding kept found.within (grown_rooms after is) refl
      (subst (λ i. IsTrue (may_hold (holder_of holders' i) new.number)) (sym (sent_id s old.kept origin o made.kept made.adds)) held)

  pub offer_after : (after : List RoomView) (places' : List JournalPlace) → after ≡ set mid new.number (with_kept (room_at mid new.number) (room_at mid new.number).prepared) →
      places' ≡ places ++ record { room = new.number; row = length (room_at mid new.number).kept; caller = caller } ∷ [] → IsAfter before after numbers places places' caller (room_of o.pdu) (sent_call s origin o)
  offer_after after places' is more =
      let rooms : after ≡ set before new.number with_new = grown_rooms after is in
      let ps : places' ≡ places ++ place_behind ∷ [] = more ∙ ap (λ (r : RoomView). places ++ (let p : JournalPlace = record { room = new.number; row = length r.kept; caller = caller } in p) ∷ []) prepared_at in
      subst (λ rs. IsAfter before rs numbers places places' caller (room_of o.pdu) (sent_call s origin o)) (sym rooms)
      (subst (λ qs. IsAfter before (set before new.number with_new) numbers places qs caller (room_of o.pdu) (sent_call s origin o)) (sym ps) offer_one)
