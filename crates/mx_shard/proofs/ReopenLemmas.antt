-- A shard's rooms and its journal, by the rows that were found.
use Rattle.std.proofs.Common.{◌≡◌, ℕ, ◌+◌, ◌<◌, Bool, true, false, cond, IsTrue, List, [], ◌∷◌, ◌++◌, length, get_or, set, Option, Some, None, refl, sym, ◌∙◌, ap, ap₂, subst, append_assoc, arith, length-append}
use Rattle.std.specs.Prelude.{All, bytes_eq, codes, nat_le, not, ◌&&◌, ◌||◌, is_some, is_none, find, Result, Ok, Err}
use Rattle.std.specs.Result.{IsErrAnd}
use Rattle.std.specs.List.{list_any, list_all}
use Rattle.std.specs.BTreeMap.{BTreeMap}
use Rattle.std.proofs.lemmas.Bool.{false≢true, and_parts, and_from}
use Rattle.std.proofs.lemmas.Bool.Decides.{nat_tests}
use Rattle.std.proofs.lemmas.List.{map-append, length-map, get_or_default}
use Rattle.std.proofs.lemmas.List.Elements.{All-map}
use Rattle.std.proofs.lemmas.List.Folds.{list_all-append}
use Rattle.std.proofs.Math.Seq.{get_or-append_seam}
use Rattle.mx_ident.specs.Identifier.{refuse_if}
use Rattle.mx_redact.specs.Hashes.{event_id}
use Rattle.mx_pdu.specs.Event.{has_kind, prev_ids, auth_ids, room_of}
use Rattle.mx_keeper.specs.Places.{PlaceView, is_at}
use Rattle.mx_keeper.specs.declared.rows.ShardRow.{ShardRow}
use Rattle.mx_keeper.specs.declared.refusals.CallError.{CallError}
use Rattle.mx_keeper.specs.declared.refusals.CallError.TheVariants.{Storage}
use Rattle.mx_graph.specs.Adding.{most_rows}
use Rattle.mx_graph.specs.Record.{Row, place_of}
use Rattle.mx_receipt.specs.Receipt.{Kept, begun, received, judged, rows_of, is_rejected, lacks_cited, offer_error}
use Rattle.mx_receipt.specs.declared.verdicts.Verdict.TheVariants.{Accepted}
use Rattle.mx_receipt.specs.declared.refusals.NotReceived.{NotReceived}
use Rattle.mx_receipt.specs.declared.refusals.NotReceived.TheVariants.{Known, SecondCreate, MissingEvents, RoomFull}
use Rattle.mx_room.specs.Hosting.{reopen_error}
use Rattle.mx_auth.specs.declared.versions.RoomVersion.{RoomVersion}
use Rattle.mx_room.specs.Queries.{room_version}
use Rattle.mx_room.specs.RoomView.{RoomView, IsHosted}
use Rattle.mx_room.specs.declared.hosting.NotARoom.{NotARoom}
use Rattle.mx_shard.specs.Journal.{Entry, entries_of, record_by, record_of, entry_of, stored, is_first, has_id, may_follow, all_follow, are_legal, IsLegal, entry_of_row, reopened, CanReopen}
use Rattle.mx_shard.specs.Holders.{IsHolderKept, IsHolderMoved, holder_of, holder_with, may_hold}
use Rattle.mx_shard.specs.Inside.{no_room, room_at, rows_at, rows_in, with_kept, CanFollow, HasVersion, IsMoved, number_of, journal_of, IsIndexed, IsReopened}
use Rattle.mx_shard.specs.declared.holders.Holder.{Holder}
use Rattle.mx_shard.specs.declared.journal_places.JournalPlace.{JournalPlace}
use Rattle.mx_shard.proofs.Places.{IsFound}
use Rattle.mx_shard.proofs.JournalLaws.{record_with, record-own, record-others, no-entries, entries-append, entries-own, entries-others}
use Rattle.mx_shard.proofs.LegalLaws.{known-is, record-length, legal-push, all_follow-push, legal-start}
use Rattle.mx_shard.proofs.RoomLemmas.{text-eq, text-self, room_found, room_missing, rows_found}
use Rattle.mx_shard.proofs.HolderLemmas.{kept_with, now_held, holding_start, holding_push, holding_set}
use Rattle.mx_shard.proofs.StoredLemmas.{stored-push, version-before, version-stays}
use Rattle.mx_shard.proofs.IndexLemmas.{indexed_start, IsPushed, RecordsMore, room_with, room-pushed, event-pushed}

-- ---- when a room takes an event again

lacks-by : (o : Option ℕ) (b any all : Bool) → is_some o ≡ b → any ≡ not all → (is_none o || any) ≡ not (b && all)
lacks-by None b any all is next = ap (λ (x : Bool). not (x && all)) is
lacks-by (Some p) b any all is next = next ∙ ap (λ (x : Bool). not (x && all)) is

lacks-are : (es : List Entry) (ids : List (List ℕ)) → list_any (λ id. is_none (place_of (rows_of (record_by es)) id)) ids ≡ not (list_all (has_id es) ids)
lacks-are es [] = refl
lacks-are es (id ∷ ids) =
    lacks-by (place_of (rows_of (record_by es)) id) (has_id es id) (list_any (λ i. is_none (place_of (rows_of (record_by es)) i)) ids) (list_all (has_id es) ids) (known-is es id) (lacks-are es ids)

refusals : (known create cited full : Bool) →
    is_none (refuse_if known Known (refuse_if create SecondCreate (refuse_if (not cited) MissingEvents (refuse_if full RoomFull None)))) ≡ (not create && not known && cited && not full)
refusals true true cited full = refl
refusals true false cited full = refl
refusals false true cited full = refl
refusals false false true true = refl
refusals false false true false = refl
refusals false false false full = refl

-- it takes an event exactly where the event may follow, and there is room for it
takes-is : (es : List Entry) (e : Entry) → is_none (offer_error (rows_of (record_by es)) e.id e.event) ≡ (may_follow es e && not (nat_le most_rows (length es)))
unfolding offer_error
takes-is es e =
    let rows = rows_of (record_by es) in
    let known : is_some (place_of rows e.id) ≡ has_id es e.id = known-is es e.id in
    let cited : lacks_cited rows e.event ≡ not (list_all (has_id es) (prev_ids e.event ++ auth_ids e.event)) = lacks-are es (prev_ids e.event ++ auth_ids e.event) in
    let long : length rows ≡ length es =
    length-map (record_by es) (λ (k : Kept). let r : Row = record { id = k.id; event = k.event; rejected = is_rejected k.verdict } in r) ∙ record-length es in
    (λ i. is_none (refuse_if (known i) Known (refuse_if (has_kind (codes "m.room.create") e.event) SecondCreate (refuse_if (cited i) MissingEvents (refuse_if (nat_le most_rows (long i)) RoomFull None)))))
    ∙ refusals (has_id es e.id) (has_kind (codes "m.room.create") e.event) (list_all (has_id es) (prev_ids e.event ++ auth_ids e.event)) (nat_le most_rows (length es))

not-none : {A : Type 0} (o : Option A) → is_none o ≡ true → o ≡ None
not-none None e = refl
not-none (Some x) e = absurd (false≢true e)

-- ---- entries of one room that can arise, with one more

abbrev own_room : Entry → Bool
own_room e = bytes_eq (room_of e.event) e.room

one-legal : (e : Entry) → is_first e ≡ true → own_room e ≡ true → are_legal (e ∷ []) ≡ true
one-legal e first own = λ i. first i && true && true && (own i && true)

few-enough : (most n : ℕ) → nat_le (n + 1) most ≡ true → nat_le most n ≡ false
few-enough most n e = grind (arith, nat_tests)

fewer : (most n more : ℕ) → nat_le (n + more) most ≡ true → nat_le n most ≡ true
fewer most n more e = grind (arith, nat_tests)

pub not-true : (b : Bool) → not b ≡ true → b ≡ false
not-true true e = absurd (false≢true e)
not-true false e = refl

-- what holds of entries that can arise
record IsLegalRun (e : Entry) (es : List Entry) : Type 0 where
  first : is_first e ≡ true
  follow : all_follow (e ∷ []) es ≡ true
  few : nat_le (length (e ∷ es)) most_rows ≡ true
  own : list_all own_room (e ∷ es) ≡ true

parts-of : (e : Entry) (es : List Entry) → are_legal (e ∷ es) ≡ true → IsLegalRun e es
parts-of e es legal =
    let a = and_parts (is_first e && all_follow (e ∷ []) es && nat_le (length (e ∷ es)) most_rows) (list_all own_room (e ∷ es)) legal in
    let b = and_parts (is_first e && all_follow (e ∷ []) es) (nat_le (length (e ∷ es)) most_rows) a.0 in
    let d = and_parts (is_first e) (all_follow (e ∷ []) es) b.0 in
    record { first = d.0; follow = d.1; few = b.1; own = a.1 }

of-parts : (e : Entry) (es : List Entry) → IsLegalRun e es → are_legal (e ∷ es) ≡ true
of-parts e es run =
    and_from (is_first e && all_follow (e ∷ []) es && nat_le (length (e ∷ es)) most_rows) (list_all own_room (e ∷ es))
    (and_from (is_first e && all_follow (e ∷ []) es) (nat_le (length (e ∷ es)) most_rows) (and_from (is_first e) (all_follow (e ∷ []) es) run.first run.follow) run.few) run.own

all_follow-front : (earlier es later : List Entry) → all_follow earlier (es ++ later) ≡ true → all_follow earlier es ≡ true
all_follow-front earlier [] later h = refl
all_follow-front earlier (e ∷ es) later h =
    let parts = and_parts (may_follow earlier e) (all_follow (earlier ++ e ∷ []) (es ++ later)) h in
    and_from (may_follow earlier e) (all_follow (earlier ++ e ∷ []) es) parts.0 (all_follow-front (earlier ++ e ∷ []) es later parts.1)

-- those before them can too
front-legal : (es later : List Entry) → are_legal (es ++ later) ≡ true → are_legal es ≡ true
front-legal [] later h = refl
front-legal (e ∷ es) later h =
    let run = parts-of e (es ++ later) h in
    let long : length (e ∷ (es ++ later)) ≡ length (e ∷ es) + length later = omega (arith, length-append es later) in
    let own = and_parts (list_all own_room (e ∷ es)) (list_all own_room later) (sym (list_all-append own_room (e ∷ es) later) ∙ run.own) in
    of-parts e es (record {
      first = run.first;
      follow = all_follow-front (e ∷ []) es later run.follow;
      few = fewer most_rows (length (e ∷ es)) (length later) (ap (λ n. nat_le n most_rows) (sym long) ∙ run.few);
      own = own.0;
    })

-- the last of them may follow the others, and there was room for it
last-takes : (e : Entry) (es : List Entry) (new : Entry) → are_legal ((e ∷ es) ++ new ∷ []) ≡ true → (may_follow (e ∷ es) new && not (nat_le most_rows (length (e ∷ es)))) ≡ true
last-takes e es new h =
    let run = parts-of e (es ++ new ∷ []) h in
    let long : length (e ∷ (es ++ new ∷ [])) ≡ length (e ∷ es) + 1 = omega (arith, length-append es (new ∷ [])) in
    let follow = and_parts (all_follow (e ∷ []) es) (may_follow (e ∷ es) new) (sym (all_follow-push (e ∷ []) es new) ∙ run.follow) in
    and_from (may_follow (e ∷ es) new) (not (nat_le most_rows (length (e ∷ es)))) follow.1
    (ap not (few-enough most_rows (length (e ∷ es)) (ap (λ n. nat_le n most_rows) (sym long) ∙ run.few)))

-- each is of its own room
last-own : (es : List Entry) (e : Entry) → are_legal (es ++ e ∷ []) ≡ true → own_room e ≡ true
last-own [] e h = (and_parts (own_room e) true (parts-of e [] h).own).0
last-own (x ∷ es) e h =
    let own = and_parts (list_all own_room (x ∷ es)) (own_room e && true) (sym (list_all-append own_room (x ∷ es) (e ∷ [])) ∙ (parts-of x (es ++ e ∷ []) h).own) in
    (and_parts (own_room e) true own.1).0

-- ---- a journal with one entry more

module _ (journal : List Entry) (e : Entry) where
  legal-more : IsLegal journal → are_legal (entries_of journal e.room ++ e ∷ []) ≡ true → IsLegal (journal ++ e ∷ [])
  legal-more legal own room =
      elim (bytes_eq e.room room) as (λ b. bytes_eq e.room room ≡ b → are_legal (entries_of (journal ++ e ∷ []) room) ≡ true) [
        | true ↦ λ h. subst (λ i. are_legal (entries_of (journal ++ e ∷ []) i) ≡ true) (text-eq e.room room h) (ap are_legal (entries-own journal e) ∙ own)
        | false ↦ λ h. ap are_legal (entries-others journal e room h) ∙ legal room
      ] refl

  last-legal : IsLegal (journal ++ e ∷ []) → are_legal (entries_of journal e.room ++ e ∷ []) ≡ true
  last-legal legal = ap are_legal (sym (entries-own journal e)) ∙ legal e.room

  -- an event of another room than its row's
  pub not-own : own_room e ≡ false → ¬ (IsLegal (journal ++ e ∷ []))
  not-own other legal = false≢true (sym other ∙ last-own (entries_of journal e.room) e (last-legal legal))

  none-first : record_of journal e.room ≡ [] → entries_of journal e.room ≡ []
  unfolding record_of
  none-first none = no-entries (entries_of journal e.room) none

  -- an event that makes no room, where none is hosted
  not-first : record_of journal e.room ≡ [] → (cause : NotARoom) → reopen_error e.event ≡ Some cause → ¬ (IsLegal (journal ++ e ∷ []))
  not-first none cause is legal =
      let alone : are_legal (e ∷ []) ≡ true = ap (λ es. are_legal (es ++ e ∷ [])) (sym (none-first none)) ∙ last-legal legal in
      false≢true (ap is_none (sym is) ∙ (parts-of e [] alone).first)

  legal-first : IsLegal journal → record_of journal e.room ≡ [] → reopen_error e.event ≡ None → own_room e ≡ true → IsLegal (journal ++ e ∷ [])
  legal-first legal none free own = legal-more legal (ap (λ es. are_legal (es ++ e ∷ [])) (none-first none) ∙ one-legal e (ap is_none free) own)

  filled : (es : List Entry) → IsHosted (record_by es) → (x : Entry) × (xs : List Entry) × (es ≡ x ∷ xs)
  filled [] h = absurd (omega arith)
  filled (x ∷ xs) h = (x, xs, refl)

  hosted-first : IsHosted (record_of journal e.room) → (x : Entry) × (xs : List Entry) × (entries_of journal e.room ≡ x ∷ xs)
  unfolding record_of
  hosted-first h = filled (entries_of journal e.room) h

  record-rows : rows_of (record_of journal e.room) ≡ rows_of (record_by (entries_of journal e.room))
  unfolding record_of
  record-rows = refl

  -- an event that its room does not take
  not-taken : IsHosted (record_of journal e.room) → (cause : NotReceived) → offer_error (rows_of (record_of journal e.room)) e.id e.event ≡ Some cause → ¬ (IsLegal (journal ++ e ∷ []))
  not-taken hosted cause is legal =
      let (x, xs, run) = hosted-first hosted in
      let takes = last-takes x xs e (ap (λ es. are_legal (es ++ e ∷ [])) (sym run) ∙ last-legal legal) in
      let refused : is_none (offer_error (rows_of (record_by (x ∷ xs))) e.id e.event) ≡ false =
      ap (λ es. is_none (offer_error (rows_of (record_by es)) e.id e.event)) (sym run) ∙ ap (λ rows. is_none (offer_error rows e.id e.event)) (sym record-rows) ∙ ap is_none is in
      false≢true (sym refused ∙ takes-is (x ∷ xs) e ∙ takes)

  legal-taken : IsLegal journal → IsHosted (record_of journal e.room) → offer_error (rows_of (record_of journal e.room)) e.id e.event ≡ None → own_room e ≡ true → IsLegal (journal ++ e ∷ [])
  legal-taken legal hosted free own =
      let (x, xs, run) = hosted-first hosted in
      let taken : (may_follow (x ∷ xs) e && not (nat_le most_rows (length (x ∷ xs)))) ≡ true =
      sym (takes-is (x ∷ xs) e) ∙ ap (λ es. is_none (offer_error (rows_of (record_by es)) e.id e.event)) (sym run) ∙ ap (λ rows. is_none (offer_error rows e.id e.event)) (sym record-rows) ∙ ap is_none free in
      let parts = and_parts (may_follow (x ∷ xs) e) (not (nat_le most_rows (length (x ∷ xs)))) taken in
      legal-more legal
      (ap (λ es. are_legal (es ++ e ∷ [])) run
      ∙ legal-push x xs e (ap are_legal (sym run) ∙ legal e.room) parts.0 (not-true (nat_le most_rows (length (x ∷ xs))) parts.1) own)

-- ---- the rooms with one event more

-- the record of the entry's room, where the room keeps the event behind the others
records-more : (rooms : List RoomView) (numbers : BTreeMap (List ℕ) ℕ) (places : List JournalPlace) (caller : ℕ) (id : List ℕ) (k : Kept) → IsIndexed rooms numbers places →
    record_with (rows_in rooms id) (entry_of id caller k) ≡ rows_in rooms id ++ k ∷ [] → RecordsMore rooms places caller id k
records-more rooms numbers places caller id k indexed more q =
    elim (bytes_eq id q) as (λ b. bytes_eq id q ≡ b → record_of (journal_of rooms places ++ entry_of id caller k ∷ []) q ≡ cond b (rows_in rooms id ++ k ∷ []) (rows_in rooms q)) [
      | true ↦ λ h.
          subst (λ i. record_of (journal_of rooms places ++ entry_of id caller k ∷ []) i ≡ rows_in rooms id ++ k ∷ []) (text-eq id q h)
          (record-own (journal_of rooms places) (entry_of id caller k) ∙ ap (λ rows. record_with rows (entry_of id caller k)) (indexed.records id) ∙ more)
      | false ↦ λ h. record-others (journal_of rooms places) (entry_of id caller k) q h ∙ indexed.records q
    ] refl

received-more : (kept : List Kept) (e : Entry) → IsHosted kept → record_with kept e ≡ kept ++ judged kept e.id e.event ∷ []
received-more [] e h = absurd (omega arith)
received-more (k ∷ ks) e h = refl

abbrev first_of : ShardRow → Kept
first_of row = record { id = event_id row.event; event = row.event; verdict = Accepted }

abbrev room_of_row : ShardRow → RoomView
room_of_row row = record { id = room_of row.event; kept = begun (event_id row.event) row.event; prepared = None }

-- the rooms, with an entry more in their journal
pub record IsMade (rooms rooms' : List RoomView) (numbers : BTreeMap (List ℕ) ℕ) (holders : BTreeMap (List ℕ) Holder) (places places' : List JournalPlace) (row : ShardRow) : Type 0 where
  pub journal : journal_of rooms' places' ≡ journal_of rooms places ++ entry_of_row row ∷ []
  pub made : IsReopened rooms' numbers holders places'

-- a row that names the version of its room, or another
module _ (journal : List Entry) (row : ShardRow) (version : RoomVersion) (is : room_version (record_of (journal ++ entry_of_row row ∷ []) row.room) ≡ version) where
  pub own-version : row.version ≡ version → HasVersion journal row
  own-version named = λ i. record { room = row.room; version = (is ∙ sym named) i; event = row.event; caller = row.caller }

  pub other-version : ¬ (row.version ≡ version) → ¬ (CanFollow journal row)
  other-version other can = other (sym (ap (λ (r : ShardRow). r.version) can.1) ∙ is)

module _ (rooms : List RoomView) (numbers : BTreeMap (List ℕ) ℕ) (holders : BTreeMap (List ℕ) Holder) (places : List JournalPlace) (row : ShardRow) (was : IsReopened rooms numbers holders places) where
  own-row : room_of row.event ≡ row.room → own_room (entry_of_row row) ≡ true
  own-row own = ap (λ r. bytes_eq r row.room) own ∙ text-self row.room

  pub other-room : bytes_eq (room_of row.event) row.room ≡ false → ¬ (IsLegal (journal_of rooms places ++ entry_of_row row ∷ []))
  other-room other = not-own (journal_of rooms places) (entry_of_row row) other

  -- a room that is not hosted
  module _ (missing : number_of numbers row.room ≡ None) where
    absent : find (λ room. bytes_eq room.id row.room) rooms ≡ None
    absent = room_missing numbers rooms row.room was.indexed.numbered missing

    no_rows : record_of (journal_of rooms places) row.room ≡ []
    no_rows = was.indexed.records row.room ∙ ap rows_at absent

    pub no-room : (cause : NotARoom) → reopen_error row.event ≡ Some cause → ¬ (IsLegal (journal_of rooms places ++ entry_of_row row ∷ []))
    no-room cause is = not-first (journal_of rooms places) (entry_of_row row) no_rows cause is

    room-pushed-by : (numbers' : BTreeMap (List ℕ) ℕ) → IsMoved numbers numbers' row.room (Some (length rooms)) →
        IsPushed rooms (rooms ++ room_with row.room (first_of row) ∷ []) numbers' places (places ++ (let p : JournalPlace = record { room = length rooms; row = 0; caller = row.caller } in p) ∷ []) (entry_of_row row)
    room-pushed-by numbers' moved =
        room-pushed rooms numbers places row.caller row.room (first_of row) was.indexed absent numbers' moved
        (records-more rooms numbers places row.caller row.room (first_of row) was.indexed
        (ap (λ rows. record_with rows (entry_of_row row)) (ap rows_at absent) ∙ ap (λ rows. rows ++ first_of row ∷ []) (sym (ap rows_at absent))))

    pub room-made : (rooms' : List RoomView) (numbers' : BTreeMap (List ℕ) ℕ) (holders' : BTreeMap (List ℕ) Holder) (places' : List JournalPlace) → room_of row.event ≡ row.room → reopen_error row.event ≡ None →
        rooms' ≡ rooms ++ room_of_row row ∷ [] → IsMoved numbers numbers' row.room (Some (length rooms)) → IsHolderKept holders holders' → IsTrue (may_hold (holder_of holders' (event_id row.event)) (length rooms)) →
        places' ≡ places ++ (let p : JournalPlace = record { room = length rooms; row = 0; caller = row.caller } in p) ∷ [] → IsMade rooms rooms' numbers' holders' places places' row
    room-made rooms' numbers' holders' places' own free grown moved kept held more =
        let same : rooms' ≡ rooms ++ room_with row.room (first_of row) ∷ [] = grown ∙ ap (λ (i : List ℕ). rooms ++ room_with i (first_of row) ∷ []) own in
        subst (λ rs. IsMade rooms rs numbers' holders' places places' row) (sym same)
        (subst (λ ps. IsMade rooms (rooms ++ room_with row.room (first_of row) ∷ []) numbers' holders' places ps row) (sym more)
        (let pushed = room-pushed-by numbers' moved in
        record {
          journal = pushed.journal;
          made = record {
            indexed = pushed.indexed;
            legal = subst IsLegal (sym pushed.journal) (legal-first (journal_of rooms places) (entry_of_row row) was.legal no_rows free (own-row own));
            holding = holding_push holders holders' rooms (rooms ++ room_with row.room (first_of row) ∷ []) (room_with row.room (first_of row)) (first_of row) was.holding kept refl refl held;
          };
        }))

    -- the version of a room that its first row makes
    pub first-version : (id : List ℕ) (room : RoomView) → id ≡ event_id row.event → room ≡ record { id = room_of row.event; kept = begun id row.event; prepared = None }
        → room_version (record_of (journal_of rooms places ++ entry_of_row row ∷ []) row.room) ≡ room_version room.kept
    first-version id room named is =
        ap room_version (record-own (journal_of rooms places) (entry_of_row row) ∙ ap (λ rows. record_with rows (entry_of_row row)) no_rows)
        ∙ ap (λ i. room_version (begun i row.event)) (sym named)
        ∙ ap (λ (r : RoomView). room_version r.kept) (sym is)

    pub room-taken : (slice : List RoomView) (id : List ℕ) (room : RoomView) (rooms' : List RoomView) (numbers' : BTreeMap (List ℕ) ℕ) (holders' : BTreeMap (List ℕ) Holder) (places' : List JournalPlace) →
        slice ≡ rooms → id ≡ event_id row.event → room_of row.event ≡ row.room → reopen_error row.event ≡ None →
        room ≡ record { id = room_of row.event; kept = begun id row.event; prepared = None } → rooms' ≡ rooms ++ room ∷ [] → IsMoved numbers numbers' row.room (Some (length slice)) →
        IsHolderMoved holders holders' id (Some (holder_with (holder_of holders id) (length slice))) →
        places' ≡ places ++ (let p : JournalPlace = record { room = length slice; row = 0; caller = row.caller } in p) ∷ [] → IsMade rooms rooms' numbers' holders' places places' row
    room-taken slice id room rooms' numbers' holders' places' all named own free is grown moved held more =
        room-made rooms' numbers' holders' places' own free
        (grown ∙ ap (λ (r : RoomView). rooms ++ r ∷ []) (is ∙ ap (λ i. let r : RoomView = record { id = room_of row.event; kept = begun i row.event; prepared = None } in r) named))
        (subst (λ (rs : List RoomView). IsMoved numbers numbers' row.room (Some (length rs))) all moved)
        (kept_with holders holders' id (length slice) held)
        (subst (λ i. IsTrue (may_hold (holder_of holders' i) (length rooms))) named
        (subst (λ (rs : List RoomView). IsTrue (may_hold (holder_of holders' id) (length rs))) all (now_held holders holders' id (length slice) held)))
        (more ∙ ap (λ (rs : List RoomView). places ++ (let p : JournalPlace = record { room = length rs; row = 0; caller = row.caller } in p) ∷ []) all)

  -- a room that is hosted
  module _ (number : ℕ) (held : number_of numbers row.room ≡ Some number) where
    found : IsFound (λ room. bytes_eq room.id row.room) rooms number
    found = room_found numbers rooms row.room number was.indexed.numbered held

    pub number-within : number < length rooms
    number-within = found.within

    abbrev old : RoomView
    old = room_at rooms number

    own_rows : record_of (journal_of rooms places) row.room ≡ old.kept
    own_rows = was.indexed.records row.room ∙ rows_found rooms row.room number found

    is_hosted : IsHosted old.kept
    is_hosted = (was.indexed.ready number no_room found.within).hosted

    hosted-record : IsHosted (record_of (journal_of rooms places) row.room)
    hosted-record = subst IsHosted (sym own_rows) is_hosted

    pub no-event : (cause : NotReceived) → offer_error (rows_of old.kept) (event_id row.event) row.event ≡ Some cause → ¬ (IsLegal (journal_of rooms places ++ entry_of_row row ∷ []))
    no-event cause is =
        not-taken (journal_of rooms places) (entry_of_row row) hosted-record cause (ap (λ kept. offer_error (rows_of kept) (event_id row.event) row.event) own_rows ∙ is)

    abbrev new_kept : Kept
    new_kept = judged old.kept (event_id row.event) row.event

    event-pushed-by : IsPushed rooms (set rooms number (with_kept old (Some new_kept))) numbers places (places ++ (let p : JournalPlace = record { room = number; row = length old.kept; caller = row.caller } in p) ∷ []) (entry_of_row row)
    event-pushed-by =
        let own : rows_in rooms row.room ≡ old.kept = rows_found rooms row.room number found in
        event-pushed rooms numbers places row.caller row.room number new_kept was.indexed found
        (records-more rooms numbers places row.caller row.room new_kept was.indexed
        (ap (λ rows. record_with rows (entry_of_row row)) own ∙ received-more old.kept (entry_of_row row) is_hosted ∙ ap (λ rows. rows ++ new_kept ∷ []) (sym own)))

    pub event-made : (rooms' : List RoomView) (holders' : BTreeMap (List ℕ) Holder) (places' : List JournalPlace) → room_of row.event ≡ row.room → offer_error (rows_of old.kept) (event_id row.event) row.event ≡ None →
        rooms' ≡ set rooms number (record { id = old.id; kept = received old.kept (event_id row.event, row.event); prepared = None }) → IsHolderKept holders holders' → IsTrue (may_hold (holder_of holders' (event_id row.event)) number) →
        places' ≡ places ++ (let p : JournalPlace = record { room = number; row = length old.kept; caller = row.caller } in p) ∷ [] → IsMade rooms rooms' numbers holders' places places' row
    event-made rooms' holders' places' own free grown kept holds more =
        subst (λ rs. IsMade rooms rs numbers holders' places places' row) (sym grown)
        (subst (λ ps. IsMade rooms (set rooms number (with_kept old (Some new_kept))) numbers holders' places ps row) (sym more)
        (record {
          journal = event-pushed-by.journal;
          made = record {
            indexed = event-pushed-by.indexed;
            legal = subst IsLegal (sym event-pushed-by.journal)
                (legal-taken (journal_of rooms places) (entry_of_row row) was.legal hosted-record (ap (λ kept. offer_error (rows_of kept) (event_id row.event) row.event) own_rows ∙ free) (own-row own));
            holding = holding_set holders holders' rooms (set rooms number (with_kept old (Some new_kept))) number (with_kept old (Some new_kept)) new_kept was.holding kept found.within refl refl holds;
          };
        }))

    -- a later row leaves the version
    pub later-version : (room : RoomView) → room ≡ get_or rooms number room → room_version (record_of (journal_of rooms places ++ entry_of_row row ∷ []) row.room) ≡ room_version room.kept
    later-version room is =
        ap room_version (record-own (journal_of rooms places) (entry_of_row row) ∙ ap (λ rows. record_with rows (entry_of_row row)) own_rows ∙ received-more old.kept (entry_of_row row) is_hosted)
        ∙ version-stays old.kept (judged old.kept (event_id row.event) row.event ∷ []) is_hosted
        ∙ ap (λ (r : RoomView). room_version r.kept) (sym (is ∙ get_or_default rooms number room no_room found.within))

    module _ (id : List ℕ) (room : RoomView) (named : id ≡ event_id row.event) (is : room ≡ get_or rooms number room) where
      at : room ≡ old
      at = is ∙ get_or_default rooms number room no_room found.within

      asked : offer_error (rows_of old.kept) (event_id row.event) row.event ≡ offer_error (rows_of room.kept) id row.event
      asked = λ i. offer_error (rows_of (sym at i).kept) (sym named i) row.event

      pub event-refused : (cause : NotReceived) → offer_error (rows_of room.kept) id row.event ≡ Some cause → ¬ (IsLegal (journal_of rooms places ++ entry_of_row row ∷ []))
      event-refused cause refused = no-event cause (asked ∙ refused)

      pub event-taken : (room' : RoomView) (holders' : BTreeMap (List ℕ) Holder) (places' : List JournalPlace) → room_of row.event ≡ row.room → offer_error (rows_of room.kept) id row.event ≡ None →
          room' ≡ record { id = room.id; kept = received room.kept (id, row.event); prepared = None } → IsHolderMoved holders holders' id (Some (holder_with (holder_of holders id) number)) →
          places' ≡ places ++ (let p : JournalPlace = record { room = number; row = length room.kept; caller = row.caller } in p) ∷ [] → IsMade rooms (set rooms number room') numbers holders' places places' row
      event-taken room' holders' places' own free grown moved more =
          event-made (set rooms number room') holders' places' own (asked ∙ free)
          (ap (set rooms number) (grown ∙ (λ i. record { id = (at i).id; kept = received (at i).kept (named i, row.event); prepared = None })))
          (kept_with holders holders' id number moved) (subst (λ i. IsTrue (may_hold (holder_of holders' i) number)) named (now_held holders holders' id number moved))
          (more ∙ ap (λ (r : RoomView). places ++ (let p : JournalPlace = record { room = number; row = length r.kept; caller = row.caller } in p) ∷ []) at)

-- ---- no rows

pub reopen-none : (rooms : List RoomView) (numbers : BTreeMap (List ℕ) ℕ) (holders : BTreeMap (List ℕ) Holder) (places : List JournalPlace) → rooms ≡ [] → numbers.entries ≡ [] → places ≡ [] → IsReopened rooms numbers holders places
reopen-none rooms numbers holders places no_rooms no_numbers no_places = record {
  indexed = indexed_start rooms numbers places no_rooms no_numbers no_places;
  legal = subst (λ ps. IsLegal (journal_of rooms ps)) (sym no_places) legal-start;
  holding = holding_start holders rooms no_rooms;
}

-- ---- rows that no shard has

front-of-legal : (journal later : List Entry) → IsLegal (journal ++ later) → IsLegal journal
front-of-legal journal later legal room = front-legal (entries_of journal room) (entries_of later room) (ap are_legal (sym (entries-append room journal later)) ∙ legal room)

module _ (place : PlaceView) (rows later : List ShardRow) (row : ShardRow) where
  pub elsewhere : is_at place row.room ≡ false → ¬ (CanReopen place (rows ++ row ∷ later))
  elsewhere other can =
      let within : length rows < length (rows ++ row ∷ later) = omega (arith, length-append rows (row ∷ later)) in
      false≢true (sym other ∙ subst (λ (r : ShardRow). IsTrue (is_at place r.room)) (get_or-append_seam rows row later row) (can.here (length rows) row within))

  pub not-legal : ¬ (CanFollow (reopened rows) row) → ¬ (CanReopen place (rows ++ row ∷ later))
  not-legal refused can =
      refused (
        front-of-legal (reopened rows ++ entry_of_row row ∷ []) (reopened later)
            (subst IsLegal (map-append entry_of_row rows (row ∷ later) ∙ sym (append_assoc (reopened rows) (entry_of_row row ∷ []) (reopened later))) can.legal),
        version-before rows later row can.versions,
      )

-- ---- the rows of the journal

-- a row more that names the version of its room
pub versions-push : (rows : List ShardRow) (row : ShardRow) → stored (reopened rows) ≡ rows → HasVersion (reopened rows) row → stored (reopened (rows ++ row ∷ [])) ≡ rows ++ row ∷ []
versions-push rows row all one =
    ap stored (map-append entry_of_row rows (row ∷ []))
    ∙ stored-push (reopened rows) (entry_of_row row)
    ∙ ap₂ (λ (rs : List ShardRow) r. rs ++ r ∷ []) all one

pub no-more : (rest : List ShardRow) → length rest ≡ 0 → rest ≡ []
no-more [] h = refl
no-more (row ∷ rows) h = absurd (omega arith)

-- rooms of the rows' place are the journal's
pub all-here : (place : PlaceView) (rows : List ShardRow) (journal : List Entry) → journal ≡ reopened rows → All (λ row. IsTrue (is_at place row.room)) rows → All (λ entry. IsTrue (is_at place entry.room)) journal
all-here place rows journal is here = subst (All (λ (e : Entry). IsTrue (is_at place e.room))) (sym is) (All-map (λ (e : Entry). IsTrue (is_at place e.room)) entry_of_row rows here)

-- a refusal for want of storage that is handed on was one
pub is-storage : {A : Type 0} (r : Result A CallError) (cause : CallError) → IsErrAnd r (λ e. e ≡ cause) → r ≡ Err Storage → cause ≡ Storage
is-storage (Ok x) cause h is = absurd h
is-storage (Err e) cause h is = let same : e ≡ Storage = cc is in sym h ∙ same
