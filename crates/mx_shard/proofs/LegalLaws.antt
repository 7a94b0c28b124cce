-- Each call of a room leaves a journal that can arise.
use Rattle.std.proofs.Common.{◌≡◌, ℕ, suc, ◌+◌, Bool, true, false, cond, List, [], ◌∷◌, ◌++◌, Option, Some, None, refl, sym, ◌∙◌, ap, subst, append-nil, append_assoc, map, length, arith, length-append}
use Rattle.std.specs.Prelude.{bytes_eq, codes, nat_le, nat_lt, fold, if◌then◌else◌, not, ◌&&◌, ◌||◌, is_some, is_none, option_to_list}
use Rattle.std.specs.List.{list_any, list_all, position, position_or_len}
use Rattle.std.proofs.lemmas.Bool.{false≢true, and_parts, and_from}
use Rattle.std.proofs.lemmas.Bool.Decides.{nat_tests}
use Rattle.std.proofs.lemmas.List.{map_push, length-map}
use Rattle.std.proofs.lemmas.List.Folds.{list_all-append}
use Rattle.mx_ident.specs.Identifier.{refuse_if, server_of}
use Rattle.mx_redact.specs.Fields.{Event, is_text}
use Rattle.mx_redact.specs.Hashes.{hash_holds}
use Rattle.mx_redact.specs.Redaction.{redact}
use Rattle.mx_pdu.specs.Event.{has_kind, state_key_of, prev_ids, auth_ids, room_of, sender_of}
use Rattle.mx_pdu.proofs.RedactionLemmas.{room-redact}
use Rattle.mx_graph.specs.Adding.{most_rows}
use Rattle.mx_graph.specs.Record.{Row, place_of}
use Rattle.mx_receipt.specs.Receipt.{Kept, begun, received, judged, rows_of, kept_at, is_rejected, lacks_cited, verdict}
use Rattle.mx_receipt.specs.declared.verdicts.Verdict.{Verdict}
use Rattle.mx_access.specs.Acl.{acl_allows}
use Rattle.mx_room.specs.Hosting.{host_error, reopen_error}
use Rattle.mx_room.specs.Joins.{join_reply, row_by_join}
use Rattle.mx_room.specs.Offer.{Offered, as_kept, new_outcome, allowed_outcome, offer_outcome, row_by}
use Rattle.mx_room.specs.declared.hosting.NotARoom.{NotARoom}
use Rattle.mx_room.specs.declared.hosting.NotARoom.TheVariants.{NotACreateEvent, CitesAuthEvents, Unsigned, BadContentHash}
use Rattle.mx_room.specs.declared.outcomes.Outcome.{Outcome}
use Rattle.mx_room.specs.declared.outcomes.Outcome.TheVariants as outcome
use Rattle.mx_room.specs.declared.outcomes.Refusal.TheVariants.{AccessList, SecondCreate, Signature, MissingEvents, RoomFull}
use Rattle.mx_shard.specs.LoneRoom.{Call, to_host, to_offer, to_join, to_ask, call_room, added, first_rows}
use Rattle.mx_shard.specs.Journal.{Entry, entries_of, record_by, record_of, entry_of, journal_after, is_first, has_id, may_follow, all_follow, are_legal, IsLegal}
use Rattle.mx_shard.proofs.JournalLaws.{joining, of_entry, IsFilled, record-filled, entries-append, entries-same, entries-other}
use Rattle.mx_shard.proofs.RoomLemmas.{text-eq, text-self}

-- ---- the ids of a record are those of its entries

fold-ids : (xs : List (List ℕ × Event)) (kept : List Kept) → map (λ k. k.id) (fold received kept xs) ≡ map (λ k. k.id) kept ++ map (λ x. x.0) xs
fold-ids [] kept = sym (append-nil (map (λ (k : Kept). k.id) kept))
fold-ids (x ∷ xs) kept =
    fold-ids xs (received kept x)
    ∙ ap (λ zs. zs ++ map (λ (y : List ℕ × Event). y.0) xs) (map_push (λ (k : Kept). k.id) kept (judged kept x.0 x.1))
    ∙ append_assoc (map (λ (k : Kept). k.id) kept) (x.0 ∷ []) (map (λ (y : List ℕ × Event). y.0) xs)

entry-ids : (es : List Entry) → map (λ x. x.0) (map of_entry es) ≡ map (λ e. e.id) es
entry-ids [] = refl
entry-ids (e ∷ es) = ap (λ zs. e.id ∷ zs) (entry-ids es)

record-ids : (es : List Entry) → map (λ k. k.id) (record_by es) ≡ map (λ e. e.id) es
record-ids [] = refl
record-ids (e ∷ es) = fold-ids (map of_entry es) (begun e.id e.event) ∙ ap (λ zs. e.id ∷ zs) (entry-ids es)

pub record-length : (es : List Entry) → length (record_by es) ≡ length es
record-length es = sym (length-map (record_by es) (λ (k : Kept). k.id)) ∙ ap (λ (ids : List (List ℕ)). length ids) (record-ids es) ∙ length-map es (λ (e : Entry). e.id)

zero-below : (n : ℕ) → nat_lt 0 (suc n) ≡ true
zero-below n = grind (arith, nat_tests)

suc-below : (a b : ℕ) → nat_lt (1 + a) (suc b) ≡ nat_lt a b
suc-below a b = grind (arith, nat_tests)

below-any : {A : Type 0} (t : A → Bool) (xs : List A) → nat_lt (position_or_len t xs) (length xs) ≡ list_any t xs
below-any t [] = refl
below-any t (x ∷ xs) =
    elim (t x) as (λ b. nat_lt (cond (not b) (1 + position_or_len t xs) 0) (suc (length xs)) ≡ (b || list_any t xs)) [
      | true ↦ zero-below (length xs)
      | false ↦ suc-below (position_or_len t xs) (length xs) ∙ below-any t xs
    ]

some-if : (b : Bool) (n : ℕ) → is_some (cond b (Some n) None) ≡ b
some-if true n = refl
some-if false n = refl

position-any : {A : Type 0} (t : A → Bool) (xs : List A) → is_some (position t xs) ≡ list_any t xs
position-any t xs = some-if (nat_lt (position_or_len t xs) (length xs)) (position_or_len t xs) ∙ below-any t xs

any-map : {A B : Type 0} (t : B → Bool) (f : A → B) (xs : List A) → list_any t (map f xs) ≡ list_any (λ x. t (f x)) xs
any-map t f [] = refl
any-map t f (x ∷ xs) = ap (λ b. t (f x) || b) (any-map t f xs)

pub known-is : (es : List Entry) (id : List ℕ) → is_some (place_of (rows_of (record_by es)) id) ≡ has_id es id
known-is es id =
    position-any (λ (r : Row). bytes_eq r.id id) (rows_of (record_by es))
    ∙ any-map (λ (r : Row). bytes_eq r.id id) (λ (k : Kept). let r : Row = record { id = k.id; event = k.event; rejected = is_rejected k.verdict } in r) (record_by es)
    ∙ sym (any-map (λ (x : List ℕ). bytes_eq x id) (λ (k : Kept). k.id) (record_by es))
    ∙ ap (list_any (λ (x : List ℕ). bytes_eq x id)) (record-ids es)
    ∙ any-map (λ (x : List ℕ). bytes_eq x id) (λ (e : Entry). e.id) es

cited-by : (o : Option ℕ) (b rest all : Bool) → is_some o ≡ b → (rest ≡ false → all ≡ true) → (is_none o || rest) ≡ false → (b && all) ≡ true
cited-by None b rest all is next e = absurd (false≢true (sym e))
cited-by (Some p) b rest all is next e = and_from b all (sym is) (next e)

cited-are : (es : List Entry) (ids : List (List ℕ)) → list_any (λ id. is_none (place_of (rows_of (record_by es)) id)) ids ≡ false → list_all (has_id es) ids ≡ true
cited-are es [] e = refl
cited-are es (id ∷ ids) e =
    cited-by (place_of (rows_of (record_by es)) id) (has_id es id) (list_any (λ i. is_none (place_of (rows_of (record_by es)) i)) ids) (list_all (has_id es) ids) (known-is es id) (cited-are es ids) e

-- ---- an event that is kept

-- it is new and no create event, what it cites is there, and there is room for it
record IsTaken (kept : List Kept) (o : Offered) : Type 0 where
  new : is_some (place_of (rows_of kept) o.id) ≡ false
  other : has_kind (codes "m.room.create") (as_kept o) ≡ false
  cites : lacks_cited (rows_of kept) (as_kept o) ≡ false
  few : nat_le most_rows (length kept) ≡ false

taken-by : (create signed lacks full : Bool) (v w : Verdict) →
    (if create then outcome.Refused SecondCreate else (if not signed then outcome.Refused Signature else (if lacks then outcome.Refused MissingEvents else (if full then outcome.Refused RoomFull else outcome.Kept v)))) ≡ outcome.Kept w →
    (create ≡ false) × (lacks ≡ false) × (full ≡ false)
taken-by true signed lacks full v w e = absurd (cc e)
taken-by false false lacks full v w e = absurd (cc e)
taken-by false true true full v w e = absurd (cc e)
taken-by false true false true v w e = absurd (cc e)
taken-by false true false false v w e = (refl, refl, refl)

taken-allowed : (kept : List Kept) (o : Offered) (w : Verdict) → allowed_outcome kept o ≡ outcome.Kept w → IsTaken kept o
unfolding allowed_outcome
taken-allowed kept o w e =
    elim (place_of (rows_of kept) o.id) as (λ p. is_some (place_of (rows_of kept) o.id) ≡ is_some p → (elim p [ None ↦ new_outcome kept o.signed (as_kept o) | Some n ↦ outcome.Known (kept_at kept n).verdict ]) ≡ outcome.Kept w → IsTaken kept o) [
      | None ↦ λ is h.
          let parts = taken-by (has_kind (codes "m.room.create") (as_kept o)) o.signed (lacks_cited (rows_of kept) (as_kept o)) (nat_le most_rows (length kept)) (verdict kept (as_kept o)) w h in
          record { new = is; other = parts.0; cites = parts.1; few = parts.2 }
      | Some n ↦ λ is h. absurd (cc h)
    ] refl e

allowed-by : (b : Bool) (x : Outcome) (w : Verdict) → (if b then x else outcome.Refused AccessList) ≡ outcome.Kept w → x ≡ outcome.Kept w
allowed-by true x w e = e
allowed-by false x w e = absurd (cc e)

taken-of : (kept : List Kept) (origin : List ℕ) (o : Offered) (w : Verdict) → offer_outcome kept origin o ≡ outcome.Kept w → IsTaken kept o
unfolding offer_outcome
taken-of kept origin o w e = taken-allowed kept o w (allowed-by (acl_allows kept origin) (allowed_outcome kept o) w e)

room-kept : (o : Offered) → room_of (as_kept o) ≡ room_of o.pdu
room-kept o = elim (hash_holds o.pdu) as (λ b. room_of (if b then o.pdu else redact o.pdu) ≡ room_of o.pdu) [
  | true ↦ refl
  | false ↦ room-redact o.pdu
]

-- ---- one entry more

last-true : (b : Bool) → (b && true) ≡ b
last-true true = refl
last-true false = refl

joined : (a b c : Bool) → (a && (b && c)) ≡ (a && b && c)
joined true b c = refl
joined false b c = refl

pub all_follow-push : (earlier es : List Entry) (e : Entry) → all_follow earlier (es ++ e ∷ []) ≡ (all_follow earlier es && may_follow (earlier ++ es) e)
all_follow-push earlier [] e = last-true (may_follow earlier e) ∙ ap (λ js. may_follow js e) (sym (append-nil earlier))
all_follow-push earlier (first ∷ es) e =
    ap (λ b. may_follow earlier first && b) (all_follow-push (earlier ++ first ∷ []) es e)
    ∙ ap (λ js. may_follow earlier first && (all_follow (earlier ++ first ∷ []) es && may_follow js e)) (append_assoc earlier (first ∷ []) es)
    ∙ joined (may_follow earlier first) (all_follow (earlier ++ first ∷ []) es) (may_follow (earlier ++ first ∷ es) e)

room-for : (most n : ℕ) → nat_le most n ≡ false → nat_le (n + 1) most ≡ true
room-for most n e = grind (arith, nat_tests)

pub legal-push : (e : Entry) (es : List Entry) (new : Entry) → are_legal (e ∷ es) ≡ true → may_follow (e ∷ es) new ≡ true → nat_le most_rows (length (e ∷ es)) ≡ false → bytes_eq (room_of new.event) new.room ≡ true →
    are_legal ((e ∷ es) ++ new ∷ []) ≡ true
legal-push e es new legal follows few own =
    let a = and_parts (is_first e && all_follow (e ∷ []) es && nat_le (length (e ∷ es)) most_rows) (list_all (λ (f : Entry). bytes_eq (room_of f.event) f.room) (e ∷ es)) legal in
    let b = and_parts (is_first e && all_follow (e ∷ []) es) (nat_le (length (e ∷ es)) most_rows) a.0 in
    let d = and_parts (is_first e) (all_follow (e ∷ []) es) b.0 in
    let long : length (e ∷ (es ++ new ∷ [])) ≡ length (e ∷ es) + 1 = omega (arith, length-append es (new ∷ [])) in
    and_from (is_first e && all_follow (e ∷ []) (es ++ new ∷ []) && nat_le (length (e ∷ (es ++ new ∷ []))) most_rows) (list_all (λ (f : Entry). bytes_eq (room_of f.event) f.room) (e ∷ (es ++ new ∷ [])))
    (and_from (is_first e && all_follow (e ∷ []) (es ++ new ∷ [])) (nat_le (length (e ∷ (es ++ new ∷ []))) most_rows)
    (and_from (is_first e) (all_follow (e ∷ []) (es ++ new ∷ [])) d.0 (all_follow-push (e ∷ []) es new ∙ and_from (all_follow (e ∷ []) es) (may_follow (e ∷ es) new) d.1 follows))
    (ap (λ n. nat_le n most_rows) long ∙ room-for most_rows (length (e ∷ es)) few))
    (list_all-append (λ (f : Entry). bytes_eq (room_of f.event) f.room) (e ∷ es) (new ∷ [])
    ∙ and_from (list_all (λ (f : Entry). bytes_eq (room_of f.event) f.room) (e ∷ es)) (bytes_eq (room_of new.event) new.room && true) a.1 (and_from (bytes_eq (room_of new.event) new.room) true own refl))

-- ---- a call

taken-follows : (es : List Entry) (o : Offered) (room : List ℕ) (caller : ℕ) (v : Verdict) → IsTaken (record_by es) o → may_follow es (entry_of room caller (record { id = o.id; event = as_kept o; verdict = v })) ≡ true
taken-follows es o room caller v taken =
    and_from (not (has_kind (codes "m.room.create") (as_kept o)) && not (has_id es o.id)) (list_all (has_id es) (prev_ids (as_kept o) ++ auth_ids (as_kept o)))
    (and_from (not (has_kind (codes "m.room.create") (as_kept o))) (not (has_id es o.id)) (ap not taken.other) (ap not (sym (known-is es o.id) ∙ taken.new)))
    (cited-are es (prev_ids (as_kept o) ++ auth_ids (as_kept o)) taken.cites)

legal-offer : (room : List ℕ) (caller : ℕ) (e : Entry) (es : List Entry) (origin : List ℕ) (o : Offered) (x : Outcome) → offer_outcome (record_by (e ∷ es)) origin o ≡ x → room_of o.pdu ≡ room → are_legal (e ∷ es) ≡ true →
    are_legal ((e ∷ es) ++ map (entry_of room caller) (option_to_list (row_by o x))) ≡ true
legal-offer room caller e es origin o (outcome.Kept v) is at legal =
    let taken = taken-of (record_by (e ∷ es)) origin o v is in
    legal-push e es (entry_of room caller (record { id = o.id; event = as_kept o; verdict = v })) legal (taken-follows (e ∷ es) o room caller v taken)
    (ap (nat_le most_rows) (sym (record-length (e ∷ es))) ∙ taken.few) (ap (λ r. bytes_eq r room) (room-kept o ∙ at) ∙ text-self room)
legal-offer room caller e es origin o (outcome.Known v) is at legal = ap are_legal (append-nil (e ∷ es)) ∙ legal
legal-offer room caller e es origin o (outcome.Refused r) is at legal = ap are_legal (append-nil (e ∷ es)) ∙ legal

legal-sent : (room : List ℕ) (caller : ℕ) (e : Entry) (es : List Entry) (origin : List ℕ) (o : Offered) (own : Bool) → room_of o.pdu ≡ room → are_legal (e ∷ es) ≡ true →
    are_legal ((e ∷ es) ++ map (entry_of room caller) (option_to_list (row_by_join o (joining own (record_by (e ∷ es)) origin o)))) ≡ true
legal-sent room caller e es origin o true at legal = legal-offer room caller e es origin o (offer_outcome (record_by (e ∷ es)) origin o) refl at legal
legal-sent room caller e es origin o false at legal = ap are_legal (append-nil (e ∷ es)) ∙ legal

legal-join : (room : List ℕ) (caller : ℕ) (e : Entry) (es : List Entry) (origin : List ℕ) (o : Offered) → room_of o.pdu ≡ room → are_legal (e ∷ es) ≡ true →
    are_legal ((e ∷ es) ++ map (entry_of room caller) (option_to_list (row_by_join o (join_reply (record_by (e ∷ es)) origin o)))) ≡ true
unfolding join_reply
legal-join room caller e es origin o at legal = legal-sent room caller e es origin o (bytes_eq (server_of (sender_of o.pdu)) origin) at legal

legal-filled : (room : List ℕ) (caller : ℕ) (e : Entry) (es : List Entry) (kept : List Kept) (call : Call) → IsFilled kept → record_by (e ∷ es) ≡ kept → call_room call ≡ Some room → are_legal (e ∷ es) ≡ true →
    are_legal ((e ∷ es) ++ map (entry_of room caller) (added kept call)) ≡ true
legal-filled room caller e es [] call h is at legal = elim h [ ]
legal-filled room caller e es (k ∷ ks) (to_host o) h is at legal = ap are_legal (append-nil (e ∷ es)) ∙ legal
legal-filled room caller e es (k ∷ ks) (to_ask origin now q) h is at legal = ap are_legal (append-nil (e ∷ es)) ∙ legal
legal-filled room caller e es (k ∷ ks) (to_join origin o) h is at legal =
    subst (λ kept. are_legal ((e ∷ es) ++ map (entry_of room caller) (option_to_list (row_by_join o (join_reply kept origin o)))) ≡ true) is
    (legal-join room caller e es origin o (let own : room_of o.pdu ≡ room = cc in own) legal)
legal-filled room caller e es (k ∷ ks) (to_offer origin o) h is at legal =
    legal-offer room caller e es origin o (offer_outcome (k ∷ ks) origin o) (ap (λ kept. offer_outcome kept origin o) is) (let own : room_of o.pdu ≡ room = cc in own) legal

not_refused : {X : Type 0} (b : Bool) (r : X) (next : Option X) → refuse_if b r next ≡ None → (b ≡ false) × (next ≡ None)
not_refused true r next e = absurd (cc e)
not_refused false r next e = (refl, e)

-- what makes a room makes it again
first-kept : (o : Offered) → host_error o ≡ None → reopen_error o.pdu ≡ None
unfolding host_error reopen_error
first-kept o e =
    let create = not_refused (not (has_kind (codes "m.room.create") o.pdu && is_text [] (state_key_of o.pdu))) NotACreateEvent _ e in
    let alone = not_refused _ CitesAuthEvents _ create.1 in
    let signed = not_refused (not o.signed) Unsigned _ alone.1 in
    let whole = not_refused (not (hash_holds o.pdu)) BadContentHash _ signed.1 in
    λ i. refuse_if (create.0 i) NotACreateEvent (refuse_if (alone.0 i) CitesAuthEvents (whole.1 i))

legal-first : (room : List ℕ) (caller : ℕ) (o : Offered) (error : Option NotARoom) → host_error o ≡ error → room_of o.pdu ≡ room → are_legal (map (entry_of room caller) (first_rows o error)) ≡ true
legal-first room caller o (Some error) is at = refl
legal-first room caller o None is at =
    let first = ap is_none (first-kept o is) in
    let own : bytes_eq (room_of o.pdu) room ≡ true = ap (λ r. bytes_eq r room) at ∙ text-self room in
    λ i. first i && true && true && (own i && true)

legal-call : (room : List ℕ) (caller : ℕ) (es : List Entry) (call : Call) → call_room call ≡ Some room → are_legal es ≡ true → are_legal (es ++ map (entry_of room caller) (added (record_by es) call)) ≡ true
legal-call room caller [] (to_host o) at legal = legal-first room caller o (host_error o) refl (let own : room_of o.pdu ≡ room = cc in own)
legal-call room caller [] (to_offer origin o) at legal = refl
legal-call room caller [] (to_join origin o) at legal = refl
legal-call room caller [] (to_ask origin now q) at legal = refl
legal-call room caller (e ∷ es) call at legal = legal-filled room caller e es (record_by (e ∷ es)) call (record-filled e es) refl at legal

pub legal-after : (journal : List Entry) (caller : ℕ) (room : List ℕ) (call : Call) → call_room call ≡ Some room → IsLegal journal → IsLegal (journal_after journal caller room call)
unfolding record_of
legal-after journal caller room call at legal q =
    elim (bytes_eq room q) as (λ b. bytes_eq room q ≡ b → are_legal (entries_of (journal_after journal caller room call) q) ≡ true) [
      | true ↦ λ h.
          subst (λ i. are_legal (entries_of (journal_after journal caller room call) i) ≡ true) (text-eq room q h)
          (ap are_legal (entries-append room journal (map (entry_of room caller) (added (record_of journal room) call)) ∙ ap (λ es. entries_of journal room ++ es) (entries-same room caller (added (record_of journal room) call)))
          ∙ legal-call room caller (entries_of journal room) call at (legal room))
      | false ↦ λ h.
          ap are_legal (entries-append q journal (map (entry_of room caller) (added (record_of journal room) call)) ∙ ap (λ es. entries_of journal q ++ es) (entries-other room q caller (added (record_of journal room) call) h) ∙ append-nil (entries_of journal q))
          ∙ legal q
    ] refl

-- no entry can arise
pub legal-start : IsLegal []
legal-start = λ room. refl
