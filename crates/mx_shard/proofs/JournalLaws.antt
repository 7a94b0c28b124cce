-- A room's call changes that room's record as it changes the record of a server that hosts the room alone, and no other room's.
use Rattle.std.proofs.Common.{◌≡◌, ℕ, Bool, true, false, cond, IsTrue, List, [], ◌∷◌, ◌++◌, Option, Some, None, refl, sym, ◌∙◌, ap, subst, append-nil, map, length}
use Rattle.std.specs.Prelude.{bytes_eq, codes, nat_le, fold, if◌then◌else◌, not, option_to_list, All}
use Rattle.std.proofs.lemmas.Bool.{false≢true}
use Rattle.std.proofs.lemmas.List.{map-append, map_push}
use Rattle.std.proofs.lemmas.List.Elements.{All-head, All-tail, filter-append}
use Rattle.std.proofs.lemmas.List.Sums.{fold-append}
use Rattle.std.proofs.lemmas.Slice.Eq.{bytes_eq-Decides}
use Rattle.mx_ident.specs.Identifier.{server_of}
use Rattle.mx_redact.specs.Fields.{Event}
use Rattle.mx_pdu.specs.Event.{has_kind, sender_of}
use Rattle.mx_graph.specs.Adding.{most_rows}
use Rattle.mx_graph.specs.Record.{place_of}
use Rattle.mx_keeper.specs.Places.{PlaceView, is_at}
use Rattle.mx_receipt.specs.Receipt.{Kept, begun, received, rows_of, kept_at, lacks_cited, verdict}
use Rattle.mx_access.specs.Acl.{acl_allows}
use Rattle.mx_room.specs.Hosting.{host_error}
use Rattle.mx_room.specs.Joins.{join_reply, join_reply_by, row_by_join, with_offer}
use Rattle.mx_room.specs.Offer.{Offered, as_kept, new_outcome, allowed_outcome, offer_outcome, row_by}
use Rattle.mx_room.specs.declared.hosting.NotARoom.{NotARoom}
use Rattle.mx_room.specs.declared.joining.JoinReply.{JoinReply}
use Rattle.mx_room.specs.declared.joining.JoinReply.TheVariants as join
use Rattle.mx_room.specs.declared.outcomes.Outcome.{Outcome}
use Rattle.mx_room.specs.declared.outcomes.Outcome.TheVariants as outcome
use Rattle.mx_room.specs.declared.outcomes.Refusal.{Refusal}
use Rattle.mx_room.specs.declared.outcomes.Refusal.TheVariants.{AccessList, SecondCreate, Signature, MissingEvents, RoomFull}
use Rattle.mx_shard.specs.LoneRoom.{Call, to_host, to_offer, to_join, to_ask, added, first_rows}
use Rattle.mx_shard.specs.Journal.{Entry, entries_of, record_by, record_of, entry_of, journal_after}

-- ---- the rows that a call adds are what receiving them makes

abbrev arrival : Kept → List ℕ × Event
arrival k = (k.id, k.event)

-- the rows of this outcome are received so
record IsReceived (kept : List Kept) (o : Offered) (x : Outcome) : Type 0 where
  is : fold received kept (map arrival (option_to_list (row_by o x))) ≡ kept ++ option_to_list (row_by o x)

received-refused : (kept : List Kept) (o : Offered) (r : Refusal) → IsReceived kept o (outcome.Refused r)
received-refused kept o r = record { is = sym (append-nil kept) }

received-if : (kept : List Kept) (o : Offered) (b : Bool) (x y : Outcome) → IsReceived kept o x → IsReceived kept o y → IsReceived kept o (if b then x else y)
received-if kept o true x y h k = h
received-if kept o false x y h k = k

received-verdict : (kept : List Kept) (o : Offered) → IsReceived kept o (outcome.Kept (verdict kept (as_kept o)))
received-verdict kept o = record { is = refl }

received-new : (kept : List Kept) (o : Offered) → IsReceived kept o (new_outcome kept o.signed (as_kept o))
received-new kept o =
    received-if kept o (has_kind (codes "m.room.create") (as_kept o)) _ _ (received-refused kept o SecondCreate)
    (received-if kept o (not o.signed) _ _ (received-refused kept o Signature)
    (received-if kept o (lacks_cited (rows_of kept) (as_kept o)) _ _ (received-refused kept o MissingEvents)
    (received-if kept o (nat_le most_rows (length kept)) _ _ (received-refused kept o RoomFull) (received-verdict kept o))))

received-by : (kept : List Kept) (o : Offered) (found : Option ℕ) →
    IsReceived kept o (elim found [ None ↦ new_outcome kept o.signed (as_kept o) | Some p ↦ outcome.Known (kept_at kept p).verdict ])
received-by kept o None = received-new kept o
received-by kept o (Some p) = record { is = sym (append-nil kept) }

received-offer : (kept : List Kept) (origin : List ℕ) (o : Offered) → IsReceived kept o (offer_outcome kept origin o)
unfolding offer_outcome allowed_outcome
received-offer kept origin o =
    received-if kept o (acl_allows kept origin) _ _ (received-by kept o (place_of (rows_of kept) o.id)) (received-refused kept o AccessList)

-- the reply to a join, by whether its sender is of the server that sends it
abbrev pub joining : Bool → List Kept → List ℕ → Offered → JoinReply
joining own kept origin o = if own then join_reply_by (with_offer kept origin o) o.id (offer_outcome kept origin o) else join.NotOffered

-- a join adds what an offer of the event does, or nothing
received-sent : (kept : List Kept) (origin : List ℕ) (o : Offered) (own : Bool) →
    fold received kept (map arrival (option_to_list (row_by_join o (joining own kept origin o)))) ≡ kept ++ option_to_list (row_by_join o (joining own kept origin o))
received-sent kept origin o true = (received-offer kept origin o).is
received-sent kept origin o false = sym (append-nil kept)

received-join : (kept : List Kept) (origin : List ℕ) (o : Offered) →
    fold received kept (map arrival (option_to_list (row_by_join o (join_reply kept origin o)))) ≡ kept ++ option_to_list (row_by_join o (join_reply kept origin o))
unfolding join_reply
received-join kept origin o = received-sent kept origin o (bytes_eq (server_of (sender_of o.pdu)) origin)

received-call : (k : Kept) (ks : List Kept) (call : Call) → fold received (k ∷ ks) (map arrival (added (k ∷ ks) call)) ≡ (k ∷ ks) ++ added (k ∷ ks) call
received-call k ks (to_host o) = sym (append-nil (k ∷ ks))
received-call k ks (to_offer origin o) = (received-offer (k ∷ ks) origin o).is
received-call k ks (to_join origin o) = received-join (k ∷ ks) origin o
received-call k ks (to_ask origin now q) = sym (append-nil (k ∷ ks))

-- ---- the record of entries, and then others

abbrev pub of_entry : Entry → List ℕ × Event
of_entry e = (e.id, e.event)

map-entries : (room : List ℕ) (caller : ℕ) (ks : List Kept) → map of_entry (map (entry_of room caller) ks) ≡ map arrival ks
map-entries room caller [] = refl
map-entries room caller (k ∷ ks) = ap (λ zs. arrival k ∷ zs) (map-entries room caller ks)

-- a record that is not empty stays so
pub data IsFilled : List Kept → Type 0 where
  filled : (k : Kept) (ks : List Kept) → IsFilled (k ∷ ks)

fold-filled : (xs : List (List ℕ × Event)) (kept : List Kept) → IsFilled kept → IsFilled (fold received kept xs)
fold-filled [] kept h = h
fold-filled (x ∷ xs) (k ∷ ks) h = fold-filled xs (received (k ∷ ks) x) (filled k _)
fold-filled (x ∷ xs) [] h = elim h [ ]

pub record-filled : (e : Entry) (es : List Entry) → IsFilled (record_by (e ∷ es))
record-filled e es = fold-filled (map of_entry es) (begun e.id e.event) (filled _ [])

on_filled : (kept : List Kept) (call : Call) → IsFilled kept → fold received kept (map arrival (added kept call)) ≡ kept ++ added kept call
on_filled (k ∷ ks) call h = received-call k ks call
on_filled [] call h = elim h [ ]

record-first : (room : List ℕ) (caller : ℕ) (o : Offered) (error : Option NotARoom) → record_by (map (entry_of room caller) (first_rows o error)) ≡ first_rows o error
record-first room caller o None = refl
record-first room caller o (Some error) = refl

record-push : (room : List ℕ) (caller : ℕ) (es : List Entry) (call : Call) →
    record_by (es ++ map (entry_of room caller) (added (record_by es) call)) ≡ record_by es ++ added (record_by es) call
record-push room caller [] (to_host o) = record-first room caller o (host_error o)
record-push room caller [] (to_offer origin o) = refl
record-push room caller [] (to_join origin o) = refl
record-push room caller [] (to_ask origin now q) = refl
record-push room caller (e ∷ es) call =
    let start : List Kept = begun e.id e.event in
    let kept : List Kept = fold received start (map of_entry es) in
    let new : List Kept = added kept call in
    ap (fold received start) (map-append of_entry es (map (entry_of room caller) new))
    ∙ ap (λ zs. fold received start (map of_entry es ++ zs)) (map-entries room caller new)
    ∙ fold-append received start (map of_entry es) (map arrival new)
    ∙ on_filled kept call (fold-filled (map of_entry es) start (filled _ []))

-- the record with one entry more
abbrev pub record_with : List Kept → Entry → List Kept
record_with [] e = begun e.id e.event
record_with (k ∷ ks) e = received (k ∷ ks) (of_entry e)

filled-with : (kept : List Kept) (e : Entry) → IsFilled kept → received kept (of_entry e) ≡ record_with kept e
filled-with (k ∷ ks) e h = refl
filled-with [] e h = elim h [ ]

pub record-with : (es : List Entry) (e : Entry) → record_by (es ++ e ∷ []) ≡ record_with (record_by es) e
record-with [] e = refl
record-with (x ∷ es) e =
    ap (fold received (begun x.id x.event)) (map_push of_entry es e) ∙ fold-append received (begun x.id x.event) (map of_entry es) (of_entry e ∷ [])
    ∙ filled-with (record_by (x ∷ es)) e (record-filled x es)

-- only no entries make no record
pub no-entries : (es : List Entry) → record_by es ≡ [] → es ≡ []
no-entries [] e = refl
no-entries (x ∷ es) e = elim (subst IsFilled e (record-filled x es)) [ ]

-- ---- the entries of a room

pub entries-append : (room : List ℕ) (xs ys : List Entry) → entries_of (xs ++ ys) room ≡ entries_of xs room ++ entries_of ys room
entries-append room xs ys = filter-append (λ (e : Entry). bytes_eq e.room room) xs ys

pub entries-same : (room : List ℕ) (caller : ℕ) (ks : List Kept) → entries_of (map (entry_of room caller) ks) room ≡ map (entry_of room caller) ks
entries-same room caller [] = refl
entries-same room caller (k ∷ ks) =
    ap (λ b. cond b (entry_of room caller k ∷ entries_of (map (entry_of room caller) ks) room) (entries_of (map (entry_of room caller) ks) room)) ((bytes_eq-Decides room room).1 refl)
    ∙ ap (λ zs. entry_of room caller k ∷ zs) (entries-same room caller ks)

pub entries-other : (room other : List ℕ) (caller : ℕ) (ks : List Kept) → bytes_eq room other ≡ false → entries_of (map (entry_of room caller) ks) other ≡ []
entries-other room other caller [] h = refl
entries-other room other caller (k ∷ ks) h =
    ap (λ b. cond b (entry_of room caller k ∷ entries_of (map (entry_of room caller) ks) other) (entries_of (map (entry_of room caller) ks) other)) h
    ∙ entries-other room other caller ks h

pub entries-own : (journal : List Entry) (e : Entry) → entries_of (journal ++ e ∷ []) e.room ≡ entries_of journal e.room ++ e ∷ []
entries-own journal e =
    entries-append e.room journal (e ∷ []) ∙ ap (λ b. entries_of journal e.room ++ cond b (e ∷ []) []) ((bytes_eq-Decides e.room e.room).1 refl)

pub entries-others : (journal : List Entry) (e : Entry) (room : List ℕ) → bytes_eq e.room room ≡ false → entries_of (journal ++ e ∷ []) room ≡ entries_of journal room
entries-others journal e room h =
    entries-append room journal (e ∷ []) ∙ ap (λ b. entries_of journal room ++ cond b (e ∷ []) []) h ∙ append-nil (entries_of journal room)

-- a room of another place has no entry among those of this one
entries-elsewhere : (place : PlaceView) (room : List ℕ) (journal : List Entry) → is_at place room ≡ false → All (λ entry. IsTrue (is_at place entry.room)) journal → entries_of journal room ≡ []
entries-elsewhere place room [] h here = refl
entries-elsewhere place room (e ∷ es) h here =
    elim (bytes_eq e.room room) as (λ b. bytes_eq e.room room ≡ b → cond b (e ∷ entries_of es room) (entries_of es room) ≡ []) [
      | true ↦ λ same. absurd (false≢true (sym h ∙ ap (is_at place) (sym ((bytes_eq-Decides e.room room).0 same)) ∙ All-head (λ (entry : Entry). IsTrue (is_at place entry.room)) e es here))
      | false ↦ λ other. entries-elsewhere place room es h (All-tail (λ (entry : Entry). IsTrue (is_at place entry.room)) e es here)
    ] refl

-- ---- the laws

-- of the call's own room
pub record-after : (journal : List Entry) (caller : ℕ) (room : List ℕ) (call : Call) →
    record_of (journal_after journal caller room call) room ≡ record_of journal room ++ added (record_of journal room) call
unfolding record_of
record-after journal caller room call =
    ap record_by (entries-append room journal (map (entry_of room caller) (added (record_of journal room) call)))
    ∙ ap (λ es. record_by (entries_of journal room ++ es)) (entries-same room caller (added (record_of journal room) call))
    ∙ record-push room caller (entries_of journal room) call

-- of each other room
pub record-after-other : (journal : List Entry) (caller : ℕ) (room other : List ℕ) (call : Call) → bytes_eq room other ≡ false →
    record_of (journal_after journal caller room call) other ≡ record_of journal other
unfolding record_of
record-after-other journal caller room other call h =
    ap record_by (entries-append other journal (map (entry_of room caller) (added (record_of journal room) call)))
    ∙ ap (λ es. record_by (entries_of journal other ++ es)) (entries-other room other caller (added (record_of journal room) call) h)
    ∙ ap record_by (append-nil (entries_of journal other))

-- with one entry more
pub record-own : (journal : List Entry) (e : Entry) → record_of (journal ++ e ∷ []) e.room ≡ record_with (record_of journal e.room) e
unfolding record_of
record-own journal e = ap record_by (entries-own journal e) ∙ record-with (entries_of journal e.room) e

pub record-others : (journal : List Entry) (e : Entry) (room : List ℕ) → bytes_eq e.room room ≡ false → record_of (journal ++ e ∷ []) room ≡ record_of journal room
unfolding record_of
record-others journal e room h = ap record_by (entries-others journal e room h)

-- of a room of another place
pub record-elsewhere : (place : PlaceView) (journal : List Entry) (room : List ℕ) → All (λ entry. IsTrue (is_at place entry.room)) journal → is_at place room ≡ false → record_of journal room ≡ []
unfolding record_of
record-elsewhere place journal room here h = ap record_by (entries-elsewhere place room journal h here)
