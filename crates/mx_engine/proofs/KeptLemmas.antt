-- What a caller is told as kept is in what it has then seen.
use Rattle.std.proofs.Common.{◌≡◌, ◌<◌, ℕ, zero, suc, Bool, true, false, cond, List, [], ◌∷◌, ◌++◌, length, get_or, sum, Option, Some, None, refl, sym, ap, ◌∙◌, subst, arith, append_assoc, append-nil}
use Rattle.std.specs.Prelude.{bytes_eq, if◌then◌else◌, nat_le, not, codes, option_to_list}
use Rattle.std.specs.Option.{option_or}
use Rattle.std.proofs.lemmas.List.{map-append, get_or_append_left, get_or_push, length-map, length-set}
use Rattle.std.proofs.lemmas.List.Quantifiers.{position-Some}
use Rattle.std.proofs.lemmas.Nat.{mod_below}
use Rattle.std.proofs.lemmas.Slice.Eq.{bytes_eq-Decides}
use native.Mathlib.Decide.{ℕ_discrete}
use mathlib.Core.Logic.{dite}
use Rattle.mx_dock.specs.Journal.{IsPrefix}
use Rattle.mx_dock.proofs.ViewLemmas.{prefix_refl, prefix_trans}
use Rattle.mx_ident.specs.Identifier.{server_of}
use Rattle.mx_pdu.specs.Event.{has_kind, room_of, sender_of}
use Rattle.mx_graph.specs.Adding.{most_rows}
use Rattle.mx_graph.specs.Record.{Row, no_row, place_of}
use Rattle.mx_graph.proofs.RowLemmas.{place_of-push}
use Rattle.mx_receipt.specs.Receipt.{Kept, rows_of, kept_at, is_rejected, lacks_cited}
use Rattle.mx_receipt.specs.declared.verdicts.Verdict.{Verdict}
use Rattle.mx_receipt.specs.declared.verdicts.Verdict.TheVariants.{Accepted}
use Rattle.mx_room.specs.Hosting.{host_error}
use Rattle.mx_room.specs.Joins.{join_reply, row_by_join}
use Rattle.mx_room.specs.Offer.{Offered, as_kept, new_outcome, allowed_outcome, offer_outcome, row_by}
use Rattle.mx_room.specs.declared.hosting.NotARoom.{NotARoom}
use Rattle.mx_room.specs.declared.outcomes.Outcome.{Outcome}
use Rattle.mx_room.specs.declared.outcomes.Outcome.TheVariants as outcome
use Rattle.mx_room.specs.declared.outcomes.Refusal.{Refusal}
use Rattle.mx_room.specs.declared.outcomes.Refusal.TheVariants.{AccessList, SecondCreate, Signature, MissingEvents, RoomFull}
use Rattle.mx_keeper.specs.Places.{place_number}
use Rattle.mx_shard.specs.LoneRoom.{Call, to_host, to_offer, to_join, to_ask, answer, added, hosting, first_rows}
use Rattle.mx_shard.specs.Journal.{Entry, record_of}
use Rattle.mx_shard.specs.declared.answers.Answer.{Answer}
use Rattle.mx_shard.specs.declared.answers.Answer.TheVariants.{ToJoined}
use Rattle.mx_shard.proofs.JournalLaws.{joining, record-after}
use Rattle.mx_book.specs.Journal.{hold_of, kept as kept_reply}
use Rattle.mx_book.specs.declared.transaction_keys.TransactionKey.{TransactionKey}
use Rattle.mx_book.specs.declared.entries.BookEntry.{BookEntry}
use Rattle.mx_book.specs.declared.entries.BookEntry.TheVariants as entry
use Rattle.mx_book.proofs.JournalLemmas.{same-self, hold_of-here}
use Rattle.mx_world.specs.Replies.{outcome_in}
use Rattle.mx_world.specs.declared.answers.Told.{Told}
use Rattle.mx_engine.specs.Views.{BerthView, view_at, after_turn, turned}
use Rattle.mx_engine.specs.Calls.{entries_added, IsAnswered}
use Rattle.mx_engine.specs.Transactions.{IsOffered, AreOffered, IsBegunAndEnded, book_number}
use Rattle.mx_engine.specs.Crashes.{verdict_told, verdict_answered, event_sent, IsKeptAs, seen_of_room, seen_of_book}
use Rattle.mx_engine.proofs.RecordLemmas.{record-longer}
use Rattle.mx_engine.proofs.TurnLemmas.{view-set_same, view-set_other}

-- ---- events that a record has

abbrev row_of : Kept → Row
row_of k = record { id = k.id; event = k.event; rejected = is_rejected k.verdict }

place-longer : (kept later : List Kept) (id : List ℕ) (p : ℕ) → place_of (rows_of kept) id ≡ Some p
    → place_of (rows_of (kept ++ later)) id ≡ Some p
place-longer kept [] id p is = ap (λ ks. place_of (rows_of ks) id) (append-nil kept) ∙ is
place-longer kept (k ∷ later) id p is =
    ap (λ ks. place_of (rows_of ks) id) (sym (append_assoc kept (k ∷ []) later))
    ∙ place-longer (kept ++ k ∷ []) later id p
    (ap (λ rows. place_of rows id) (map-append row_of kept (k ∷ []))
    ∙ place_of-push (rows_of kept) (row_of k) id
    ∙ ap (λ found. option_or found (cond (bytes_eq k.id id) (Some (length (rows_of kept))) None)) is)

within : (kept : List Kept) (id : List ℕ) (p : ℕ) → place_of (rows_of kept) id ≡ Some p → p < length kept
within kept id p is =
    let at = position-Some (λ (r : Row). bytes_eq r.id id) (rows_of kept) p no_row is in
    subst (λ n. p < n) (length-map kept row_of) at.0

kept-more : (kept later : List Kept) (id : List ℕ) (v : Verdict) → IsKeptAs kept id v → IsKeptAs (kept ++ later) id v
kept-more kept later id v is = record {
  place = is.place;
  there = place-longer kept later id is.place is.there;
  judged = ap (λ (k : Kept). k.verdict) (get_or_append_left kept later _ is.place (within kept id is.place is.there))
      ∙ is.judged;
}

-- it stays in a longer record
pub kept-longer : (kept longer : List Kept) → IsPrefix kept longer → (id : List ℕ) (v : Verdict) → IsKeptAs kept id v
    → IsKeptAs longer id v
kept-longer kept longer later id v is = subst (λ ks. IsKeptAs ks id v) (sym later.1) (kept-more kept later.0 id v is)

-- a new one stands last
kept-new : (kept : List Kept) (k : Kept) → place_of (rows_of kept) k.id ≡ None → IsKeptAs (kept ++ k ∷ []) k.id k.verdict
kept-new kept k none = record {
  place = length kept;
  there = ap (λ rows. place_of rows k.id) (map-append row_of kept (k ∷ []))
      ∙ place_of-push (rows_of kept) (row_of k) k.id
      ∙ ap (λ found. option_or found (cond (bytes_eq k.id k.id) (Some (length (rows_of kept))) None)) none
      ∙ ap (λ b. cond b (Some (length (rows_of kept))) None) ((bytes_eq-Decides k.id k.id).1 refl)
      ∙ ap (λ n. Some n) (length-map kept row_of);
  judged = ap (λ (k : Kept). k.verdict) (get_or_push kept k _ (length kept) refl);
}

-- ---- the outcome of an offer

-- what an outcome says of the record before it
abbrev Before : List Kept → List ℕ → Outcome → Type 0
Before kept id (outcome.Kept v) = place_of (rows_of kept) id ≡ None
Before kept id (outcome.Known v) = IsKeptAs kept id v
Before kept id (outcome.Refused r) = Unit {0}

record Sits (kept : List Kept) (id : List ℕ) (x : Outcome) : Type 0 where
  is : Before kept id x

sits-if : (kept : List Kept) (id : List ℕ) (b : Bool) (x y : Outcome) → Sits kept id x → Sits kept id y
    → Sits kept id (if b then x else y)
sits-if kept id true x y h k = h
sits-if kept id false x y h k = k

sits-refused : (kept : List Kept) (id : List ℕ) (r : Refusal) → Sits kept id (outcome.Refused r)
sits-refused kept id r = record { is = tt }

sits-new : (kept : List Kept) (o : Offered) → place_of (rows_of kept) o.id ≡ None
    → Sits kept o.id (new_outcome kept o.signed (as_kept o))
sits-new kept o none =
    sits-if kept o.id (has_kind (codes "m.room.create") (as_kept o)) _ _ (sits-refused kept o.id SecondCreate)
    (sits-if kept o.id (not o.signed) _ _ (sits-refused kept o.id Signature)
    (sits-if kept o.id (lacks_cited (rows_of kept) (as_kept o)) _ _ (sits-refused kept o.id MissingEvents)
    (sits-if kept o.id (nat_le most_rows (length kept)) _ _ (sits-refused kept o.id RoomFull) (record { is = none }))))

sits-by : (kept : List Kept) (o : Offered) (found : Option ℕ) → place_of (rows_of kept) o.id ≡ found →
    Sits kept o.id (elim found
    [ None ↦ new_outcome kept o.signed (as_kept o) | Some p ↦ outcome.Known (kept_at kept p).verdict ])
sits-by kept o None is = sits-new kept o is
sits-by kept o (Some p) is = record { is = record { place = p; there = is; judged = refl } }

sits-offer : (kept : List Kept) (origin : List ℕ) (o : Offered) → Sits kept o.id (offer_outcome kept origin o)
unfolding offer_outcome allowed_outcome
sits-offer kept origin o =
    sits-if kept o.id _ _ _ (sits-by kept o (place_of (rows_of kept) o.id) refl) (sits-refused kept o.id AccessList)

same-verdict : (v w : Verdict) → Some v ≡ Some w → v ≡ w
same-verdict v w e = cc

by-outcome : (kept : List Kept) (o : Offered) (x : Outcome) (v : Verdict) → Sits kept o.id x → verdict_told (Some x) ≡ Some v
    → IsKeptAs (kept ++ option_to_list (row_by o x)) o.id v
by-outcome kept o (outcome.Kept w) v sits e =
    subst (IsKeptAs (kept ++ record { id = o.id; event = as_kept o; verdict = w } ∷ []) o.id) (same-verdict w v e)
    (kept-new kept (record { id = o.id; event = as_kept o; verdict = w }) sits.is)
by-outcome kept o (outcome.Known w) v sits e =
    kept-more kept [] o.id v (subst (IsKeptAs kept o.id) (same-verdict w v e) sits.is)
by-outcome kept o (outcome.Refused r) v sits e = absurd (let n : None ≡ Some v = e in cc)

-- ---- the answer to a call

hosted-kept : (o : Offered) (error : Option NotARoom) (v : Verdict) → verdict_answered (hosting o error) ≡ Some v
    → IsKeptAs (first_rows o error) o.id v
hosted-kept o None v e =
    subst (IsKeptAs (first_rows o None) o.id) (same-verdict Accepted v e)
    (kept-new [] (record { id = o.id; event = o.pdu; verdict = Accepted }) refl)
hosted-kept o (Some error) v e = absurd (let n : None ≡ Some v = e in cc)

joined-by : (kept : List Kept) (origin : List ℕ) (o : Offered) (v : Verdict) (own : Bool) →
    verdict_answered (ToJoined (joining own kept origin o)) ≡ Some v
    → IsKeptAs (kept ++ option_to_list (row_by_join o (joining own kept origin o))) o.id v
joined-by kept origin o v true e = by-outcome kept o (offer_outcome kept origin o) v (sits-offer kept origin o) e
joined-by kept origin o v false e = absurd (let n : None ≡ Some v = e in cc)

joined-kept : (kept : List Kept) (origin : List ℕ) (o : Offered) (v : Verdict) →
    verdict_answered (ToJoined (join_reply kept origin o)) ≡ Some v
    → IsKeptAs (kept ++ option_to_list (row_by_join o (join_reply kept origin o))) o.id v
unfolding join_reply
joined-kept kept origin o v e = joined-by kept origin o v (bytes_eq (server_of (sender_of o.pdu)) origin) e

nothing-told : {P : Type 0} (v : Verdict) → None ≡ Some v → P
nothing-told v e = absurd (let n : None ≡ Some v = e in cc)

no-event : {P : Type 0} (o : Offered) → None ≡ Some o → P
no-event o e = absurd (let n : None ≡ Some o = e in cc)

same-event : (o p : Offered) → Some o ≡ Some p → o ≡ p
same-event o p e = cc

answered-by : (kept : List Kept) (call : Call) (o : Offered) (v : Verdict) → event_sent call ≡ Some o
    → verdict_answered (answer kept call) ≡ Some v → IsKeptAs (kept ++ added kept call) o.id v
answered-by [] (to_host p) o v sent e =
    subst (λ q. IsKeptAs (first_rows p (host_error p)) q.id v) (same-event p o sent) (hosted-kept p (host_error p) v e)
answered-by [] (to_offer origin p) o v sent e = nothing-told v e
answered-by [] (to_join origin p) o v sent e = nothing-told v e
answered-by [] (to_ask origin now q) o v sent e = no-event o sent
answered-by (k ∷ ks) (to_host p) o v sent e = nothing-told v e
answered-by (k ∷ ks) (to_offer origin p) o v sent e =
    subst (λ q. IsKeptAs ((k ∷ ks) ++ option_to_list (row_by p (offer_outcome (k ∷ ks) origin p))) q.id v)
    (same-event p o sent)
    (by-outcome (k ∷ ks) p (offer_outcome (k ∷ ks) origin p) v (sits-offer (k ∷ ks) origin p) e)
answered-by (k ∷ ks) (to_join origin p) o v sent e =
    subst (λ q. IsKeptAs ((k ∷ ks) ++ option_to_list (row_by_join p (join_reply (k ∷ ks) origin p))) q.id v)
    (same-event p o sent) (joined-kept (k ∷ ks) origin p v e)
answered-by (k ∷ ks) (to_ask origin now q) o v sent e = no-event o sent

-- what is told of an offered event
outcome-by : (kept : List Kept) (origin : List ℕ) (o : Offered) (v : Verdict)
    → verdict_told (outcome_in kept origin o) ≡ Some v → IsKeptAs (kept ++ added kept (to_offer origin o)) o.id v
outcome-by [] origin o v e = nothing-told v e
outcome-by (k ∷ ks) origin o v e = by-outcome (k ∷ ks) o (offer_outcome (k ∷ ks) origin o) v (sits-offer (k ∷ ks) origin o) e

-- ---- what the caller has seen

-- the journal with what the call added
seen-after : (journal : List Entry) (caller : ℕ) (room : List ℕ) (call : Call) (id : List ℕ) (v : Verdict)
    → IsKeptAs (record_of journal room ++ added (record_of journal room) call) id v
    → IsKeptAs (record_of (journal ++ entries_added journal caller room call) room) id v
seen-after journal caller room call id v is = subst (λ ks. IsKeptAs ks id v) (sym (record-after journal caller room call)) is

module _ {E : Type 0} (old new : List (BerthView E)) (n : ℕ) (journal entries : List E)
    (turn : new ≡ turned old n journal entries) where
  turned-long : length new ≡ length old
  turned-long = ap length turn ∙ length-set old n (after_turn (view_at old n) journal entries)

  turned-seen : n < length old → (view_at new n).seen ≡ journal ++ entries
  turned-seen l = ap (λ vs. (view_at vs n).seen) turn
      ∙ ap (λ (w : BerthView E). w.seen) (view-set_same old n (after_turn (view_at old n) journal entries) l)

  -- more is seen of each
  turned-more : n < length old → IsPrefix (view_at old n).seen journal → (m : ℕ)
      → IsPrefix (view_at old m).seen (view_at new m).seen
  turned-more l later m =
      dite (ℕ_discrete m n)
      (λ same. subst (λ k. IsPrefix (view_at old k).seen (view_at new k).seen) (sym same)
      (subst (IsPrefix (view_at old n).seen) (sym (turned-seen l))
      (later.0 ++ entries, ap (λ js. js ++ entries) later.1 ∙ append_assoc (view_at old n).seen later.0 entries)))
      (λ other. subst (λ (w : BerthView E). IsPrefix (view_at old m).seen w.seen)
      (sym (ap (λ vs. view_at vs m) turn ∙ view-set_other old n m (after_turn (view_at old n) journal entries) other))
      (prefix_refl (view_at old m).seen))

below : (count : ℕ) (name : List ℕ) → 0 < count → place_number count name < count
below count name some = mod_below (sum name) count some

-- of the room that is called
pub answered-kept : (caller : ℕ) (call : Call) (room : List ℕ) (old new : List (BerthView Entry)) (told : Answer)
    → 0 < length old → IsAnswered caller call room old new told →
    (o : Offered) (v : Verdict) → event_sent call ≡ Some o → verdict_answered told ≡ Some v
    → IsKeptAs (record_of (seen_of_room new room) room) o.id v
answered-kept caller call room old new told some is o v sent e =
    let n = place_number (length old) room in
    let entries = entries_added is.journal caller room call in
    let long = turned-long old new n is.journal entries is.seen in
    let seen = turned-seen old new n is.journal entries is.seen (below (length old) room some) in
    let kept = seen-after is.journal caller room call o.id v
    (answered-by (record_of is.journal room) call o v sent (ap verdict_answered (sym is.reply) ∙ e)) in
    subst (λ js. IsKeptAs (record_of js room) o.id v) (sym (ap (λ k. (view_at new (place_number k room)).seen) long ∙ seen))
    kept

module _ (caller : ℕ) (origin : List ℕ) where
  one-kept : (o : Offered) (old new : List (BerthView Entry)) (t : Told) → 0 < length old
      → IsOffered caller origin o old new t → (v : Verdict) → verdict_told t.outcome ≡ Some v
      → IsKeptAs (record_of (seen_of_room new (room_of o.pdu)) (room_of o.pdu)) o.id v
  one-kept o old new t some is v e =
      let room = room_of o.pdu in
      let n = place_number (length old) room in
      let entries = entries_added is.journal caller room (to_offer origin o) in
      let long = turned-long old new n is.journal entries is.seen in
      let seen = turned-seen old new n is.journal entries is.seen (below (length old) room some) in
      let kept = seen-after is.journal caller room (to_offer origin o) o.id v
      (outcome-by (record_of is.journal room) origin o v
      (ap (λ (x : Told). verdict_told x.outcome) (sym is.outcome) ∙ e)) in
      subst (λ js. IsKeptAs (record_of js room) o.id v)
      (sym (ap (λ k. (view_at new (place_number k room)).seen) long ∙ seen)) kept

  one-long : (o : Offered) (old new : List (BerthView Entry)) (t : Told) → IsOffered caller origin o old new t
      → length new ≡ length old
  one-long o old new t is =
      turned-long old new (place_number (length old) (room_of o.pdu)) is.journal
      (entries_added is.journal caller (room_of o.pdu) (to_offer origin o)) is.seen

  all-long : (os : List Offered) (old new : List (BerthView Entry)) (ts : List Told) → AreOffered caller origin os old new ts
      → length new ≡ length old
  all-long [] old new [] are = ap length are
  all-long [] old new (t ∷ ts) are = absurd are
  all-long (o ∷ os) old new [] are = absurd are
  all-long (o ∷ os) old new (t ∷ ts) are = all-long os are.0 new ts are.2 ∙ one-long o old are.0 t are.1

  all-more : (os : List Offered) (old new : List (BerthView Entry)) (ts : List Told) → 0 < length old
      → AreOffered caller origin os old new ts → (m : ℕ) → IsPrefix (view_at old m).seen (view_at new m).seen
  all-more [] old new [] some are m =
      subst (λ vs. IsPrefix (view_at old m).seen (view_at vs m).seen) (sym are) (prefix_refl (view_at old m).seen)
  all-more [] old new (t ∷ ts) some are m = absurd are
  all-more (o ∷ os) old new [] some are m = absurd are
  all-more (o ∷ os) old new (t ∷ ts) some are m =
      let is = are.1 in
      prefix_trans (view_at old m).seen (view_at are.0 m).seen (view_at new m).seen
      (turned-more old are.0 (place_number (length old) (room_of o.pdu)) is.journal
      (entries_added is.journal caller (room_of o.pdu) (to_offer origin o)) is.seen
      (below (length old) (room_of o.pdu) some) is.later m)
      (all-more os are.0 new ts (subst (λ n. 0 < n) (sym (one-long o old are.0 t is)) some) are.2 m)

  -- each event that was told as kept
  pub events-kept : (os : List Offered) (old new : List (BerthView Entry)) (ts : List Told) → 0 < length old
      → AreOffered caller origin os old new ts → (n : ℕ) (o : Offered) (t : Told) (v : Verdict) → n < length os
      → verdict_told (get_or ts n t).outcome ≡ Some v →
      IsKeptAs (record_of (seen_of_room new (room_of (get_or os n o).pdu)) (room_of (get_or os n o).pdu)) (get_or os n o).id
      v
  events-kept [] old new ts some are n o t v l e = absurd (let no_event : ⊥ = omega (arith, l) in no_event)
  events-kept (p ∷ os) old new [] some are n o t v l e = absurd are
  events-kept (p ∷ os) old new (u ∷ ts) some are zero o t v l e =
      let between = are.0 in
      let room = room_of p.pdu in
      let some_there = subst (λ n. 0 < n) (sym (one-long p old between u are.1)) some in
      let more : IsPrefix (seen_of_room between room) (seen_of_room new room) =
      subst (λ k. IsPrefix (seen_of_room between room) (view_at new (place_number k room)).seen)
      (sym (all-long os between new ts are.2))
      (all-more os between new ts some_there are.2 (place_number (length between) room)) in
      kept-longer (record_of (seen_of_room between room) room) (record_of (seen_of_room new room) room)
      (record-longer (seen_of_room between room) (seen_of_room new room) more room) p.id v
      (one-kept p old between u some are.1 v e)
  events-kept (p ∷ os) old new (u ∷ ts) some are (suc n) o t v l e =
      events-kept os are.0 new ts (subst (λ n. 0 < n) (sym (one-long p old are.0 u are.1)) some) are.2 n o t v
      (omega (arith, l)) e

-- ---- the reply to a transaction

pub closed-kept : (caller : ℕ) (p : TransactionKey) (body : List ℕ) (old new : List (BerthView BookEntry)) → 0 < length old
    → IsBegunAndEnded caller p (entry.Kept p caller body) old new → hold_of (seen_of_book new p) p ≡ kept_reply body
closed-kept caller p body old new some is =
    let n = book_number old p in
    let begun_there = turned old n is.journal (entry.Begun p caller ∷ []) in
    let first = turned-long old begun_there n is.journal (entry.Begun p caller ∷ []) refl in
    let last = turned-long begun_there new n is.last (entry.Kept p caller body ∷ []) is.seen in
    let l : n < length begun_there = subst (λ k. n < k) (sym first) (below (length old) p.origin some) in
    let seen = turned-seen begun_there new n is.last (entry.Kept p caller body ∷ []) is.seen l in
    ap (λ k. hold_of (view_at new (place_number k p.origin)).seen p) (last ∙ first)
    ∙ ap (λ js. hold_of js p) seen
    ∙ hold_of-here is.last (entry.Kept p caller body) p (same-self p)

pub replayed-kept : (p : TransactionKey) (body : List ℕ) (old new : List (BerthView BookEntry)) (journal : List BookEntry)
    → 0 < length old → hold_of journal p ≡ kept_reply body → new ≡ turned old (book_number old p) journal []
    → hold_of (seen_of_book new p) p ≡ kept_reply body
replayed-kept p body old new journal some is turn =
    let n = book_number old p in
    let long = turned-long old new n journal [] turn in
    let seen = turned-seen old new n journal [] turn (below (length old) p.origin some) in
    ap (λ k. hold_of (view_at new (place_number k p.origin)).seen p) long
    ∙ ap (λ js. hold_of js p) (seen ∙ append-nil journal)
    ∙ is
