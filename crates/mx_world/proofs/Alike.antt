-- A law of these definitions: what a run tells about a room is what a server tells that hosts it alone, so runs that agree are alike.
use Rattle.std.proofs.Common.{◌≡◌, ℕ, Bool, true, false, cond, ◌||◌, List, [], ◌∷◌, ◌++◌, Option, Some, None, refl, sym, ◌∙◌, ap, subst, append_assoc, append-nil}
use Rattle.std.specs.Prelude.{if◌then◌else◌, is_some, bytes_eq, option_map, option_and_then, Ok, Err}
use Rattle.std.specs.List.{list_any}
use Rattle.std.proofs.lemmas.Bool.{false≢true}
use Rattle.std.proofs.lemmas.Slice.Eq.{bytes_eq-Decides}
use Rattle.mx_pdu.specs.Event.{room_of}
use Rattle.mx_graph.specs.Record.{place_of}
use Rattle.mx_room.specs.Offer.{Offered}
use Rattle.mx_access.specs.Access.{shown}
use Rattle.mx_room.specs.Queries.{given_or, event_shown, query_answer}
use Rattle.mx_shard.specs.LoneRoom.{Call, to_host, to_offer, to_join, to_ask, call_room, answer, added, answers_alone, record_alone}
use Rattle.mx_shard.specs.Shown.{IsShown, IsAnswer}
use Rattle.mx_world.specs.Calls.{Start, left, if_put_to, offers, call_of, calls_from, calls, record_after}
use Rattle.mx_world.specs.Replies.{Status, unopened, waiting, ended, status_after, outcome_in, next_reply, IsAnswered, IsReply, AreReplies}
use Rattle.mx_world.specs.Moves.{rest_of}
use Rattle.mx_world.specs.Agree.{where_so, holds, hears, heard, offered_answer, answers_in, told_from, told_about, IsApart, IsApartAt, StayApart, IsRun, Agree, AlikeAbout}
use Rattle.mx_receipt.specs.Receipt.{Kept, rows_of}
use Rattle.mx_room.specs.declared.queries.Query.{Query}
use Rattle.mx_room.specs.declared.queries.Query.TheVariants as ask
use Rattle.mx_room.specs.declared.queries.QueryReply.TheVariants as gives
use Rattle.mx_room.specs.declared.queries.Denied.TheVariants.{NotFound}
use Rattle.mx_shard.specs.declared.answers.Answer.{Answer}
use Rattle.mx_shard.specs.declared.answers.Answer.TheVariants.{NotHosted, Hosted, AlreadyHosted, NotHost, ToOffered, ToJoined, ToAsked}
use Rattle.mx_book.specs.declared.transaction_keys.TransactionKey.{TransactionKey}
use Rattle.mx_world.specs.declared.steps.Step.{Step}
use Rattle.mx_world.specs.declared.steps.Step.TheVariants.{Host, Open, Next, Close, Join, Ask}
use Rattle.mx_world.specs.declared.steps.StepReply.{StepReply}
use Rattle.mx_world.specs.declared.steps.StepReply.TheVariants.{OfRoom}
use Rattle.mx_world.proofs.NextStep.{next_record, rest_of-status}

-- ---- calls that the room does not hear

unheard_adds : (kept : List Kept) (c : Call) → hears kept c ≡ false → kept ++ added kept c ≡ kept
unheard_adds kept (to_host o) h = absurd (false≢true (sym h))
unheard_adds kept (to_offer origin o) h = absurd (false≢true (sym h))
unheard_adds kept (to_join origin o) h = absurd (false≢true (sym h))
unheard_adds [] (to_ask origin now q) h = refl
unheard_adds (k ∷ ks) (to_ask origin now q) h = append-nil (k ∷ ks)

answers-where : (kept : List Kept) (c : Call) (cs : List Call) (b : Bool) → (b ≡ false → kept ++ added kept c ≡ kept) →
    answers_alone kept (where_so b (c ∷ []) ++ heard (kept ++ added kept c) cs) ≡ where_so b (answer kept c ∷ []) ++ answers_alone (kept ++ added kept c) (heard (kept ++ added kept c) cs)
answers-where kept c cs true h = refl
answers-where kept c cs false h = ap (λ k. answers_alone k (heard (kept ++ added kept c) cs)) (sym (h refl))

answers-heard : (kept : List Kept) (c : Call) (cs : List Call) →
    answers_alone kept (heard kept (c ∷ cs)) ≡ where_so (hears kept c) (answer kept c ∷ []) ++ answers_alone (kept ++ added kept c) (heard (kept ++ added kept c) cs)
answers-heard kept c cs = answers-where kept c cs (hears kept c) (unheard_adds kept c)

answers-heard-append : (kept : List Kept) (cs ds : List Call) →
    answers_alone kept (heard kept (cs ++ ds)) ≡ answers_alone kept (heard kept cs) ++ answers_alone (record_alone kept cs) (heard (record_alone kept cs) ds)
answers-heard-append kept [] ds = refl
answers-heard-append kept (c ∷ cs) ds =
    let after : List Kept = kept ++ added kept c in
    let tail : List Answer = answers_alone (record_alone after cs) (heard (record_alone after cs) ds) in
    answers-heard kept c (cs ++ ds)
    ∙ ap (λ as'. where_so (hears kept c) (answer kept c ∷ []) ++ as') (answers-heard-append after cs ds)
    ∙ sym (append_assoc (where_so (hears kept c) (answer kept c ∷ [])) (answers_alone after (heard after cs)) tail)
    ∙ ap (λ as'. as' ++ tail) (sym (answers-heard kept c cs))

record-where : (kept : List Kept) (c : Call) (cs : List Call) (b : Bool) → (b ≡ false → kept ++ added kept c ≡ kept) →
    record_alone kept (where_so b (c ∷ []) ++ cs) ≡ record_alone (kept ++ added kept c) cs
record-where kept c cs true h = refl
record-where kept c cs false h = ap (λ k. record_alone k cs) (sym (h refl))

record-heard : (kept : List Kept) (cs : List Call) → record_alone kept (heard kept cs) ≡ record_alone kept cs
record-heard kept [] = refl
record-heard kept (c ∷ cs) =
    record-where kept c (heard (kept ++ added kept c) cs) (hears kept c) (unheard_adds kept c) ∙ record-heard (kept ++ added kept c) cs

-- ---- one step

same_text : (xs ys : List ℕ) → bytes_eq xs ys ≡ true → xs ≡ ys
same_text xs ys h = (bytes_eq-Decides xs ys).0 h

-- the answers about a room that a call of it gives
abbrev heard_answer : List Kept → List Call → List Answer → List Answer
heard_answer kept cs answers = where_so (list_any (hears kept) cs) answers

one_heard : (kept : List Kept) (c : Call) → answers_alone kept (heard kept (c ∷ [])) ≡ heard_answer kept (c ∷ []) (answer kept c ∷ [])
one_heard kept c = answers-heard kept c [] ∙ append-nil (where_so (hears kept c) (answer kept c ∷ [])) ∙ by_test (hears kept c)
  where
    by_test : (b : Bool) → where_so b (answer kept c ∷ []) ≡ where_so (b || false) (answer kept c ∷ [])
    by_test true = refl
    by_test false = refl

-- a call that is made where two rooms are one
if_same : (rows : List ℕ → List Kept) (room other : List ℕ) (c : Call) (a : List Kept → Answer) → (a (rows room) ≡ answer (rows room) c) →
    heard_answer (rows room) (if bytes_eq other room then c ∷ [] else []) (a (rows other) ∷ []) ≡ answers_alone (rows room) (heard (rows room) (if bytes_eq other room then c ∷ [] else []))
if_same rows room other c a h =
    elim (bytes_eq other room) as (λ b. bytes_eq other room ≡ b → heard_answer (rows room) (cond b (c ∷ []) []) (a (rows other) ∷ []) ≡ answers_alone (rows room) (heard (rows room) (cond b (c ∷ []) []))) [
      | true ↦ λ k. ap (λ r. heard_answer (rows room) (c ∷ []) (a (rows r) ∷ [])) (same_text other room k)
          ∙ ap (λ x. heard_answer (rows room) (c ∷ []) (x ∷ [])) h ∙ sym (one_heard (rows room) c)
      | false ↦ λ k. refl
    ] refl

offered-answer : (kept : List Kept) (origin : List ℕ) (o : Offered) → offered_answer (outcome_in kept origin o) ≡ answer kept (to_offer origin o)
offered-answer [] origin o = refl
offered-answer (k ∷ ks) origin o = refl

next_told : (rows : List ℕ → List Kept) (room origin : List ℕ) (st : Status) →
    heard_answer (rows room) (offers room origin (rest_of st)) (answers_in (next_reply rows origin st)) ≡ answers_alone (rows room) (heard (rows room) (offers room origin (rest_of st)))
next_told rows room origin unopened = refl
next_told rows room origin (ended body) = refl
next_told rows room origin (waiting [] told) = refl
next_told rows room origin (waiting (o ∷ rest) told) = if_same rows room (room_of o.pdu) (to_offer origin o) (λ kept. offered_answer (outcome_in kept origin o)) (offered-answer (rows room) origin o)

-- ---- a query by an id alone

abbrev is_given : Answer → Bool
is_given (ToAsked (Ok reply)) = true
is_given _ = false

held_if_found : (kept : List Kept) (origin : List ℕ) (o : Option ℕ) → is_given (ToAsked (given_or NotFound (option_map gives.Event (option_and_then (shown kept origin) o)))) ≡ true → is_some o ≡ true
held_if_found kept origin None h = absurd (false≢true h)
held_if_found kept origin (Some p) h = refl

held_if_shown : (kept : List Kept) (origin : List ℕ) (now : ℕ) (id : List ℕ) → is_given (answer kept (to_ask origin now (ask.Event id))) ≡ true → holds kept id ≡ true
unfolding query_answer event_shown
held_if_shown [] origin now id h = absurd (false≢true h)
held_if_shown (k ∷ ks) origin now id h = held_if_found (k ∷ ks) origin (place_of (rows_of (k ∷ ks)) id) h

found_answer : (rows : List ℕ → List Kept) (room origin : List ℕ) (now : ℕ) (id : List ℕ) (a : Answer) →
    IsShown rows (to_ask origin now (ask.Event id)) a → IsApart rows room id → holds (rows room) id ≡ true → a ≡ answer (rows room) (to_ask origin now (ask.Event id))
found_answer rows room origin now id (ToAsked (Ok reply)) (other, e) apart h =
    let held : holds (rows other) id ≡ true = held_if_shown (rows other) origin now id (ap is_given e) in
    sym e ∙ ap (λ r. answer (rows r) (to_ask origin now (ask.Event id))) (sym (apart h other held))
found_answer rows room origin now id (ToAsked (Err denied)) (d, all) apart h = ap (λ x. ToAsked (Err x)) d ∙ sym (all room)
found_answer rows room origin now id NotHosted h apart k = absurd h
found_answer rows room origin now id (Hosted i) h apart k = absurd h
found_answer rows room origin now id (AlreadyHosted i) h apart k = absurd h
found_answer rows room origin now id (NotHost error) h apart k = absurd h
found_answer rows room origin now id (ToOffered o) h apart k = absurd h
found_answer rows room origin now id (ToJoined r) h apart k = absurd h

shown_told : (rows : List ℕ → List Kept) (room origin : List ℕ) (now : ℕ) (id : List ℕ) (a : Answer) →
    IsShown rows (to_ask origin now (ask.Event id)) a → IsApart rows room id →
    heard_answer (rows room) (to_ask origin now (ask.Event id) ∷ []) (a ∷ []) ≡ answers_alone (rows room) (heard (rows room) (to_ask origin now (ask.Event id) ∷ []))
shown_told rows room origin now id a h apart =
    elim (holds (rows room) id) as (λ b. holds (rows room) id ≡ b → where_so (b || false) (a ∷ []) ≡ where_so (b || false) (answer (rows room) (to_ask origin now (ask.Event id)) ∷ [])) [
      | true ↦ λ k. ap (λ x. x ∷ []) (found_answer rows room origin now id a h apart k)
      | false ↦ λ k. refl
    ] refl
    ∙ sym (one_heard (rows room) (to_ask origin now (ask.Event id)))

-- a call that is put to one room
room_told : (rows : List ℕ → List Kept) (room other : List ℕ) (c : Call) (reply : StepReply) → call_room c ≡ Some other → IsAnswered rows c reply →
    heard_answer (rows room) (if bytes_eq other room then c ∷ [] else []) (answers_in reply) ≡ answers_alone (rows room) (heard (rows room) (if bytes_eq other room then c ∷ [] else []))
room_told rows room other c (OfRoom a) named h =
    ap (λ x. heard_answer (rows room) (if bytes_eq other room then c ∷ [] else []) (x ∷ [])) (subst (λ r. IsAnswer rows c r a) named h)
    ∙ if_same rows room other c (λ kept. answer kept c) refl
room_told rows room other c reply named h = absurd h

ask_told : (rows : List ℕ → List Kept) (room origin : List ℕ) (now : ℕ) (q : Query) (reply : StepReply) →
    IsAnswered rows (to_ask origin now q) reply → IsApartAt rows room (Ask origin now q) →
    heard_answer (rows room) (if_put_to room (to_ask origin now q)) (answers_in reply) ≡ answers_alone (rows room) (heard (rows room) (if_put_to room (to_ask origin now q)))
ask_told rows room origin now (ask.Event id) (OfRoom a) h apart = shown_told rows room origin now id a h apart
ask_told rows room origin now (ask.Event id) reply h apart = absurd h
ask_told rows room origin now (ask.State r id) reply h apart = room_told rows room r (to_ask origin now (ask.State r id)) reply refl h
ask_told rows room origin now (ask.StateIds r id) reply h apart = room_told rows room r (to_ask origin now (ask.StateIds r id)) reply refl h
ask_told rows room origin now (ask.EventAuth r id) reply h apart = room_told rows room r (to_ask origin now (ask.EventAuth r id)) reply refl h
ask_told rows room origin now (ask.Backfill r from limit) reply h apart = room_told rows room r (to_ask origin now (ask.Backfill r from limit)) reply refl h
ask_told rows room origin now (ask.Missing r earliest latest limit min_depth) reply h apart = room_told rows room r (to_ask origin now (ask.Missing r earliest latest limit min_depth)) reply refl h
ask_told rows room origin now (ask.MakeJoin r user versions) reply h apart = room_told rows room r (to_ask origin now (ask.MakeJoin r user versions)) reply refl h

step_told : (rows : List ℕ → List Kept) (st : TransactionKey → Status) (room : List ℕ) (left : TransactionKey → List Offered) (step : Step) (reply : StepReply) →
    IsReply rows st step reply → IsApartAt rows room step → ((p : TransactionKey) → rest_of (st p) ≡ left p) →
    heard_answer (rows room) (call_of room left step) (answers_in reply) ≡ answers_alone (rows room) (heard (rows room) (call_of room left step))
step_told rows st room left (Host o) reply h apart same_rest =
    room_told rows room (room_of o.pdu) (to_host o) reply refl h
step_told rows st room left (Join origin o) reply h apart same_rest =
    room_told rows room (room_of o.pdu) (to_join origin o) reply refl h
step_told rows st room left (Open p events) reply h apart same_rest = refl
step_told rows st room left (Close p) reply h apart same_rest = refl
step_told rows st room left (Next p) reply h apart same_rest =
    ap (λ x. heard_answer (rows room) (offers room p.origin (left p)) (answers_in x)) h
    ∙ ap (λ rest. heard_answer (rows room) (offers room p.origin rest) (answers_in (next_reply rows p.origin (st p)))) (sym (same_rest p))
    ∙ next_told rows room p.origin (st p)
    ∙ ap (λ rest. answers_alone (rows room) (heard (rows room) (offers room p.origin rest))) (same_rest p)
step_told rows st room left (Ask origin now q) reply h apart same_rest = ask_told rows room origin now q reply h apart

-- ---- runs

pub told-alone : (s : Start) (room : List ℕ) (earlier later : List Step) (replies : List StepReply) → AreReplies s earlier later replies → StayApart s room earlier later →
    told_from s room earlier later replies ≡ answers_alone (record_after s earlier room) (heard (record_after s earlier room) (calls_from s room earlier later))
told-alone s room earlier [] [] h apart = refl
told-alone s room earlier [] (reply ∷ replies) h apart = absurd h
told-alone s room earlier (step ∷ later) [] h apart = absurd h
told-alone s room earlier (step ∷ later) (reply ∷ replies) h apart =
    let kept : List Kept = record_after s earlier room in
    let cs : List Call = call_of room (left s earlier) step in
    ap (λ as'. as' ++ told_from s room (earlier ++ step ∷ []) later replies)
    (step_told (record_after s earlier) (status_after s earlier) room (left s earlier) step reply h.0 apart.0 (rest_of-status s earlier))
    ∙ ap (λ as'. answers_alone kept (heard kept cs) ++ as')
    (told-alone s room (earlier ++ step ∷ []) later replies h.1 apart.1
    ∙ ap (λ k. answers_alone k (heard k (calls_from s room (earlier ++ step ∷ []) later))) (next_record s earlier step room))
    ∙ sym (answers-heard-append kept cs (calls_from s room (earlier ++ step ∷ []) later))

-- what a run tells about a room is what a server answers that hosts it alone and got its calls
pub told-about : (s : Start) (room : List ℕ) (steps : List Step) (replies : List StepReply) → IsRun s room steps replies →
    told_about s room steps replies ≡ answers_alone (s.record_at room) (heard (s.record_at room) (calls s room steps))
told-about s room steps replies run = told-alone s room [] steps replies run.replied run.apart

-- runs that agree leave the room one record
pub same_records : (s s' : Start) (room : List ℕ) (steps steps' : List Step) → Agree s s' room steps steps' → record_after s steps room ≡ record_after s' steps' room
same_records s s' room steps steps' agree =
    sym (record-heard (s.record_at room) (calls s room steps))
    ∙ ap (λ k. record_alone k (heard (s.record_at room) (calls s room steps))) agree.begin ∙ ap (record_alone (s'.record_at room)) agree.calls
    ∙ record-heard (s'.record_at room) (calls s' room steps')

pub alike : (s s' : Start) (room : List ℕ) (steps steps' : List Step) (replies replies' : List StepReply) → IsRun s room steps replies → IsRun s' room steps' replies' → Agree s s' room steps steps' → AlikeAbout s s' room steps steps' replies replies'
alike s s' room steps steps' replies replies' run run' agree = record {
  answers =
      told-about s room steps replies run
      ∙ ap (λ k. answers_alone k (heard (s.record_at room) (calls s room steps))) agree.begin ∙ ap (answers_alone (s'.record_at room)) agree.calls
      ∙ sym (told-about s' room steps' replies' run');
  last_record = same_records s s' room steps steps' agree;
}
