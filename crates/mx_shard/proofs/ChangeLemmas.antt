-- What a call is about to change, by what its room tells.
use Rattle.std.proofs.Common.{◌≡◌, ℕ, ◌<◌, ◌↔◌, true, List, [], ◌∷◌, length, get_or, set, take, drop, ◌++◌, append-nil, Option, Some, None, refl, sym, ◌∙◌, ap, subst, arith}
use Rattle.std.specs.Prelude.{◌||◌, option_map, option_to_list, All, Err, IsErrOf, IsTrue, find, bytes_eq}
use Rattle.std.specs.BTreeMap.{BTreeMap}
use Rattle.std.proofs.lemmas.List.{get_or_default, set-get_or, take_all, drop_all}
use Rattle.mx_pdu.specs.Event.{room_of}
use Rattle.mx_keeper.specs.declared.rows.ShardRow.{ShardRow}
use Rattle.mx_receipt.specs.Receipt.{Kept}
use Rattle.mx_room.specs.Hosting.{host_error}
use Rattle.mx_room.specs.Joins.{join_reply, is_let_in, row_by_join, takes_memory}
use Rattle.mx_room.specs.Offer.{Offered, as_kept, is_kept, offer_outcome, row_by}
use Rattle.mx_room.specs.Queries.{room_version}
use Rattle.mx_room.specs.RoomView.{RoomView, IsHosted}
use Rattle.mx_room.specs.declared.hosting.NotARoom.{NotARoom}
use Rattle.mx_room.specs.declared.hosting.HostError.{HostError}
use Rattle.mx_room.specs.declared.hosting.HostError.TheVariants.{Memory, NotARoom as no_room_by}
use Rattle.mx_room.specs.declared.joining.JoinReply.{JoinReply}
use Rattle.mx_room.specs.declared.joining.JoinReply.TheVariants as join
use Rattle.mx_room.specs.declared.outcomes.Outcome.{Outcome}
use Rattle.mx_room.specs.declared.outcomes.Outcome.TheVariants as outcome
use Rattle.mx_shard.specs.LoneRoom.{to_host, call_room, answer, added, hosting, first_rows, sent_call}
use Rattle.mx_shard.specs.Inside.{no_room, room_at, rows_at, rows_in, IsReady, IsNumbered, number_of, with_prepared}
use Rattle.mx_shard.specs.Told.{tells_hosted, tells_kept}
use Rattle.mx_shard.specs.Changes.{IsAnswered, IsNewRoom, IsNewRow, IsHosting, IsOffering, row_for, sent_answer, sent_row}
use Rattle.mx_shard.specs.declared.hosting.Hosting.{Hosting}
use Rattle.mx_shard.specs.declared.hosting.Hosting.TheVariants as hosts
use Rattle.mx_shard.specs.declared.hosting.NewRoom.{NewRoom}
use Rattle.mx_shard.specs.declared.offering.NewRow.{NewRow}
use Rattle.mx_shard.specs.declared.offering.Offering.{Offering}
use Rattle.mx_shard.specs.declared.offering.Offering.TheVariants as offers
use Rattle.mx_shard.specs.declared.sendings.Sending.{Sending}
use Rattle.mx_shard.specs.declared.sendings.Sending.TheVariants as sends
use Rattle.mx_shard.specs.declared.answers.Answer.{Answer}
use Rattle.mx_shard.specs.declared.answers.Answer.TheVariants.{NotHosted, NotHost}
use Rattle.mx_shard.proofs.RoomLemmas.{room_found, rows_found}

-- ---- what is told, at what it was found to be

pub made_of : (xs rooms : List RoomView) (caller : ℕ) (o : Offered) (h : Hosting) (made new : NewRoom) → xs ≡ rooms → h ≡ hosts.Made made → new ≡ made → IsHosting xs caller o h → IsNewRoom rooms caller o new
made_of xs rooms caller o h made new e is same told = subst (λ rs. IsNewRoom rs caller o new) e (subst (IsNewRoom xs caller o) (sym same) (subst (IsHosting xs caller o) is told))

pub made_id : (rooms : List RoomView) (caller : ℕ) (o : Offered) (new : NewRoom) → IsNewRoom rooms caller o new → new.room.id ≡ room_of o.pdu
made_id rooms caller o new made = ap (λ (room : RoomView). room.id) made.room

pub host_answered : (xs rooms : List RoomView) (caller : ℕ) (o : Offered) (h : Hosting) (a : Answer) → xs ≡ rooms → h ≡ hosts.Answered a → IsHosting xs caller o h → IsAnswered (rows_in rooms (room_of o.pdu)) (to_host o) a
host_answered xs rooms caller o h a e is told = subst (λ rs. IsAnswered (rows_in rs (room_of o.pdu)) (to_host o) a) e (subst (IsHosting xs caller o) is told)

pub prepared_of : (xs rooms after : List RoomView) (numbers : BTreeMap (List ℕ) ℕ) (caller : ℕ) (s : Sending) (origin : List ℕ) (o : Offered) (f : Offering) (new : NewRow) → xs ≡ rooms → f ≡ offers.Prepared new → IsOffering xs after numbers caller s origin o f → IsNewRow rooms after numbers caller s origin o new
prepared_of xs rooms after numbers caller s origin o f new e is told = subst (λ rs. IsNewRow rs after numbers caller s origin o new) e (subst (IsOffering xs after numbers caller s origin o) is told)

pub offer_told : (xs rooms after : List RoomView) (numbers : BTreeMap (List ℕ) ℕ) (caller : ℕ) (s : Sending) (origin : List ℕ) (o : Offered) (f : Offering) (a : Answer) → xs ≡ rooms → f ≡ offers.Answered a → IsOffering xs after numbers caller s origin o f →
    (after ≡ rooms) × IsAnswered (rows_in rooms (room_of o.pdu)) (sent_call s origin o) a
offer_told xs rooms after numbers caller s origin o f a e is told =
    subst (λ rs. (after ≡ rs) × IsAnswered (rows_in rs (room_of o.pdu)) (sent_call s origin o) a) e (subst (IsOffering xs after numbers caller s origin o) is told)

-- what a slice of a `Vec` holds when it is given back
pub written_back : (len : ℕ) (items given : List RoomView) → len ≡ length items → length given ≡ length items → take len (given ++ drop (length given) items) ≡ given
written_back len items given whole same =
    ap (λ rest. take len (given ++ rest)) (drop_all (length given) items (omega arith)) ∙ ap (take len) (append-nil given) ∙ take_all len given (omega arith)

-- ---- a room that is not hosted

pub not_host : (kept : List Kept) (o : Offered) (error : NotARoom) → kept ≡ [] → host_error o ≡ Some error → IsAnswered kept (to_host o) (NotHost error)
not_host kept o error none is = record {
  answer = ap (hosting o) (sym is) ∙ ap (λ rows. answer rows (to_host o)) (sym none);
  nothing = ap (λ rows. added rows (to_host o)) none ∙ ap (first_rows o) is;
}

pub not_hosted : (kept : List Kept) (s : Sending) (origin : List ℕ) (o : Offered) → kept ≡ [] → IsAnswered kept (sent_call s origin o) NotHosted
not_hosted kept sends.Offer origin o none = record {
  answer = ap (λ rows. answer rows (sent_call sends.Offer origin o)) (sym none);
  nothing = ap (λ rows. added rows (sent_call sends.Offer origin o)) none;
}
not_hosted kept sends.Join origin o none = record {
  answer = ap (λ rows. answer rows (sent_call sends.Join origin o)) (sym none);
  nothing = ap (λ rows. added rows (sent_call sends.Join origin o)) none;
}

-- an event that makes a room
pub no_cause : {T : Type 0} (o : Offered) (e : HostError) → e ≡ Memory → ((cause : NotARoom) → IsErrOf {T = T} (Err e) (no_room_by cause) ↔ (host_error o ≡ Some cause)) → host_error o ≡ None
no_cause o e memory refused = by (host_error o) refl
  where
    by : (w : Option NotARoom) → host_error o ≡ w → host_error o ≡ None
    by None is = is
    by (Some cause) is =
        let same : e ≡ no_room_by cause = (let told = (refused cause).1 is in cc) in
        let wrong : Memory ≡ no_room_by cause = sym memory ∙ same in
        absurd (cc wrong)

pub new_hosted : (rooms : List RoomView) (o : Offered) → find (λ room. bytes_eq room.id (room_of o.pdu)) rooms ≡ None → host_error o ≡ None → IsTrue (tells_hosted (answer (rows_in rooms (room_of o.pdu)) (to_host o)))
new_hosted rooms o missing free = ap tells_hosted (ap (λ room. answer (rows_at room) (to_host o)) missing ∙ ap (hosting o) free)

-- ---- an event that is sent to a room with events

pub sent_room : (s : Sending) (origin : List ℕ) (o : Offered) → call_room (sent_call s origin o) ≡ Some (room_of o.pdu)
sent_room sends.Offer origin o = refl
sent_room sends.Join origin o = refl

pub sent_answers : (s : Sending) (kept : List Kept) (origin : List ℕ) (o : Offered) → IsHosted kept → sent_answer s kept origin o ≡ answer kept (sent_call s origin o)
sent_answers s [] origin o h = absurd (omega arith)
sent_answers sends.Offer (k ∷ ks) origin o h = refl
sent_answers sends.Join (k ∷ ks) origin o h = refl

pub sent_adds : (s : Sending) (kept : List Kept) (origin : List ℕ) (o : Offered) → IsHosted kept → option_to_list (sent_row s kept origin o) ≡ added kept (sent_call s origin o)
sent_adds s [] origin o h = absurd (omega arith)
sent_adds sends.Offer (k ∷ ks) origin o h = refl
sent_adds sends.Join (k ∷ ks) origin o h = refl

pub kept_told : (rooms : List RoomView) (numbers : BTreeMap (List ℕ) ℕ) (s : Sending) (origin : List ℕ) (o : Offered) (n : ℕ) (d : RoomView) → IsNumbered numbers rooms → number_of numbers (room_of o.pdu) ≡ Some n → All IsReady rooms →
    IsTrue (tells_kept (sent_answer s (get_or rooms n d).kept origin o)) → IsTrue (tells_kept (answer (rows_in rooms (room_of o.pdu)) (sent_call s origin o)))
kept_told rooms numbers s origin o n d numbered held ready told =
    let found = room_found numbers rooms (room_of o.pdu) n numbered held in
    let at : get_or rooms n d ≡ room_at rooms n = get_or_default rooms n d no_room found.within in
    let mine : IsReady (get_or rooms n d) = subst IsReady (sym at) (ready n no_room found.within) in
    let same : rows_in rooms (room_of o.pdu) ≡ (get_or rooms n d).kept = rows_found rooms (room_of o.pdu) n found ∙ ap (λ (q : RoomView). q.kept) (sym at) in
    ap tells_kept (ap (λ kept. answer kept (sent_call s origin o)) same ∙ sym (sent_answers s (get_or rooms n d).kept origin o mine.hosted)) ∙ told

-- a row is added of an event that is kept
row_kept : (o : Offered) (x : Outcome) (k : Kept) → row_by o x ≡ Some k → is_kept x ≡ true
row_kept o (outcome.Kept v) k e = refl
row_kept o (outcome.Known v) k e = absurd (cc e)
row_kept o (outcome.Refused r) k e = absurd (cc e)

join_kept : (o : Offered) (r : JoinReply) (k : Kept) → row_by_join o r ≡ Some k → takes_memory r ≡ true
join_kept o join.NotOffered k e = absurd (cc e)
join_kept o (join.Offered x joined) k e = ap (λ b. b || is_let_in x) (row_kept o x k e)

pub sent_kept : (s : Sending) (kept : List Kept) (origin : List ℕ) (o : Offered) (k : Kept) → sent_row s kept origin o ≡ Some k → tells_kept (sent_answer s kept origin o) ≡ true
sent_kept sends.Offer kept origin o k e = row_kept o (offer_outcome kept origin o) k e
sent_kept sends.Join kept origin o k e = join_kept o (join_reply kept origin o) k e

-- it has the id of the event
row_id : (o : Offered) (x : Outcome) (k : Kept) → row_by o x ≡ Some k → k.id ≡ o.id
row_id o (outcome.Kept v) k e = (let same : k ≡ record { id = o.id; event = as_kept o; verdict = v } = cc e in ap (λ (r : Kept). r.id) same)
row_id o (outcome.Known v) k e = absurd (cc e)
row_id o (outcome.Refused r) k e = absurd (cc e)

join_id : (o : Offered) (r : JoinReply) (k : Kept) → row_by_join o r ≡ Some k → k.id ≡ o.id
join_id o join.NotOffered k e = absurd (cc e)
join_id o (join.Offered x joined) k e = row_id o x k e

pub sent_id : (s : Sending) (kept : List Kept) (origin : List ℕ) (o : Offered) (k : Kept) → sent_row s kept origin o ≡ Some k → k.id ≡ o.id
sent_id sends.Offer kept origin o k e = row_id o (offer_outcome kept origin o) k e
sent_id sends.Join kept origin o k e = join_id o (join_reply kept origin o) k e

some_row : (f : Kept → ShardRow) (v : Option Kept) (row : ShardRow) → Some row ≡ option_map f v → (k : Kept) × (v ≡ Some k) × (row ≡ f k)
some_row f None row e = absurd (cc e)
some_row f (Some k) row e = (k, refl, cc e)

no_row : (f : Kept → ShardRow) (v : Option Kept) → None ≡ option_map f v → v ≡ None
no_row f None e = refl
no_row f (Some k) e = absurd (cc e)

-- the room with this number, which is read at d, is now r'
module _ (rooms : List RoomView) (numbers : BTreeMap (List ℕ) ℕ) (caller : ℕ) (s : Sending) (origin : List ℕ) (o : Offered) (n : ℕ) (d r' : RoomView) (x : Answer) (told : Option ShardRow)
    (numbered : IsNumbered numbers rooms) (held : number_of numbers (room_of o.pdu) ≡ Some n) (told_answer : x ≡ sent_answer s (get_or rooms n d).kept origin o)
    (rows : told ≡ option_map (row_for (room_of o.pdu) (room_version (get_or rooms n d).kept) caller) (sent_row s (get_or rooms n d).kept origin o)) (prepared : r' ≡ with_prepared (get_or rooms n d) (sent_row s (get_or rooms n d).kept origin o)) where
  pub number_within : n < length rooms
  number_within = (room_found numbers rooms (room_of o.pdu) n numbered held).within

  at : get_or rooms n d ≡ room_at rooms n
  at = get_or_default rooms n d no_room number_within

  pub new_row : (row : ShardRow) → told ≡ Some row → IsNewRow rooms (set rooms n r') numbers caller s origin o (record { number = n; answer = x; row = row })
  new_row row some =
      let r : RoomView = get_or rooms n d in
      let w = some_row (row_for (room_of o.pdu) (room_version r.kept) caller) (sent_row s r.kept origin o) row (sym some ∙ rows) in
      record {
        kept = w.0;
        found = held;
        answer = told_answer ∙ ap (λ (q : RoomView). sent_answer s q.kept origin o) at;
        adds = ap (λ (q : RoomView). sent_row s q.kept origin o) (sym at) ∙ w.1;
        rooms = ap (set rooms n) (prepared ∙ ap (with_prepared r) w.1 ∙ ap (λ (q : RoomView). with_prepared q (Some w.0)) at);
        row = w.2 ∙ ap (λ (q : RoomView). row_for (room_of o.pdu) (room_version q.kept) caller w.0) at;
      }

  pub nothing_new : All IsReady rooms → told ≡ None → (set rooms n r' ≡ rooms) × IsAnswered (rows_in rooms (room_of o.pdu)) (sent_call s origin o) x
  nothing_new ready none =
      let r : RoomView = get_or rooms n d in
      let v : sent_row s r.kept origin o ≡ None = no_row (row_for (room_of o.pdu) (room_version r.kept) caller) (sent_row s r.kept origin o) (sym none ∙ rows) in
      let mine : IsReady r = subst IsReady (sym at) (ready n no_room number_within) in
      let same : rows_in rooms (room_of o.pdu) ≡ r.kept = rows_found rooms (room_of o.pdu) n (room_found numbers rooms (room_of o.pdu) n numbered held) ∙ ap (λ (q : RoomView). q.kept) (sym at) in (
        ap (set rooms n) (prepared ∙ ap (with_prepared r) (v ∙ sym mine.free) ∙ at) ∙ set-get_or rooms n no_room,
        record {
          answer = told_answer ∙ sent_answers s r.kept origin o mine.hosted ∙ ap (λ kept. answer kept (sent_call s origin o)) (sym same);
          nothing = ap (λ kept. added kept (sent_call s origin o)) same ∙ sym (sent_adds s r.kept origin o mine.hosted) ∙ ap option_to_list v;
        },
      )
