-- What is kept after steps, and the replies to them.
use Rattle.std.proofs.Common.{◌≡◌, ℕ, List, [], ◌∷◌, ◌++◌, None, length, refl, sym, ◌∙◌, ap, subst, append-nil, append_assoc}
use Rattle.std.specs.Prelude.{Result, Ok, Err, IfOk, OnOk, OnErr, if◌then◌else◌, is_some, IsTrue, ◌==◌}
use Rattle.std.proofs.lemmas.Bool.{eqb-true}
use Rattle.std.proofs.lemmas.List.{nil_from_length}
use mathlib.Core.Path.{fun_ext}
use Rattle.mx_receipt.specs.Receipt.{Kept}
use Rattle.mx_shard.specs.LoneRoom.{record_alone}
use Rattle.mx_book.specs.Journal.{Hold, free, begun, kept}
use Rattle.mx_book.specs.declared.transaction_keys.TransactionKey.{TransactionKey}
use Rattle.mx_world.specs.Calls.{Start, record_after, call_of}
use Rattle.mx_world.specs.Replies.{Status, status_after, status_by, IsReply, AreReplies}
use Rattle.mx_world.specs.Moves.{rest_of, moved, RecordsMove, StatusesMove}
use Rattle.mx_world.specs.View.{Progress, WorldView}
use Rattle.mx_world.specs.Worlds.{shard_journals, records_of, book_journals, holds_of, found, status_found, records_in, status_in, kept_body, start, none_open, Stays, Moves, IsAfter}
use Rattle.mx_world.specs.declared.steps.Step.{Step}
use Rattle.mx_world.specs.declared.steps.StepReply.{StepReply}
use Rattle.mx_world.proofs.NextStep.{next_record, next_status, rest_of-status}

-- where nothing is open, each status is that before the first step
settled : (state : Hold) (p : TransactionKey) → status_found None state ≡ status_by p (kept_body (status_found None state)) (if is_some (kept_body (status_found None state)) then None else None) []
settled free p = refl
settled (begun caller) p = refl
settled (kept reply) p = refl

none_going : (going : List (TransactionKey × Progress)) → IsTrue (length going == 0) → (p : TransactionKey) → found going p ≡ None
none_going going none p = ap (λ es. found es p) (nil_from_length going (eqb-true (length going) 0 none))

pub after_none : {K L : Type 0} (w : WorldView K L) → IsTrue (none_open w) → IsAfter (start w) [] w
after_none w none = record {
  records = λ room. refl;
  statuses = λ p.
      let P : Status → Type 0 = λ st. st ≡ status_by p (kept_body st) (if is_some (kept_body st) then None else None) [] in
      subst P (ap (λ f. status_found f (holds_of (book_journals w.books) p)) (sym (none_going w.going none p))) (settled (holds_of (book_journals w.books) p) p);
}

pub after_more : {K L : Type 0} (s : Start) (earlier : List Step) (w w' : WorldView K L) (x : Step) → IsAfter s earlier w → Moves w w' x → IsAfter s (earlier ++ x ∷ []) w'
after_more s earlier w w' x now moves = record {
  records = λ room.
      moves.records room
      ∙ ap (λ rows. record_alone rows (call_of room (λ p. rest_of (status_in w p)) x)) (now.records room)
      ∙ ap (λ rest. record_alone (record_after s earlier room) (call_of room rest x)) (fun_ext (λ p. ap rest_of (now.statuses p) ∙ rest_of-status s earlier p))
      ∙ sym (next_record s earlier x room);
  statuses = λ p.
      moves.statuses p
      ∙ ap (λ rows. moved rows x p (status_in w p)) (fun_ext now.records)
      ∙ ap (moved (record_after s earlier) x p) (now.statuses p)
      ∙ sym (next_status s earlier x p);
}

pub reply_after : {K L : Type 0} (s : Start) (earlier : List Step) (w : WorldView K L) (x : Step) (reply : StepReply) → IsAfter s earlier w → IsReply (records_in w) (status_in w) x reply → IsReply (record_after s earlier) (status_after s earlier) x reply
reply_after s earlier w x reply now h =
    let P : (List ℕ → List Kept) → Type 0 = λ rows. IsReply rows (status_in w) x reply in
    let Q : (TransactionKey → Status) → Type 0 = λ st. IsReply (record_after s earlier) st x reply in
    subst Q (fun_ext now.statuses) (subst P (fun_ext now.records) h)

pub replies_more : (s : Start) (earlier later : List Step) (replies : List StepReply) (x : Step) (reply : StepReply) → AreReplies s earlier later replies → IsReply (record_after s (earlier ++ later)) (status_after s (earlier ++ later)) x reply → AreReplies s earlier (later ++ x ∷ []) (replies ++ reply ∷ [])
replies_more s earlier [] [] x reply h r =
    let P : List Step → Type 0 = λ e. IsReply (record_after s e) (status_after s e) x reply in
    (subst P (append-nil earlier) r, tt)
replies_more s earlier [] (y ∷ replies) x reply h r = absurd h
replies_more s earlier (y ∷ later) [] x reply h r = absurd h
replies_more s earlier (y ∷ later) (z ∷ replies) x reply h r =
    let P : List Step → Type 0 = λ e. IsReply (record_after s e) (status_after s e) x reply in
    (h.0, replies_more s (earlier ++ y ∷ []) later replies x reply h.1 (subst P (sym (append_assoc earlier (y ∷ []) later)) r))

-- a step of a server is the next of the run
pub step_next : {K L E : Type 0} (r : Result StepReply E) (w w' : WorldView K L) (x : Step) → IfOk r (IsReply (records_in w) (status_in w) x) → OnOk r (Moves w w' x) → IfOk r (λ reply. (s : Start) (earlier : List Step) → IsAfter s earlier w → IsReply (record_after s earlier) (status_after s earlier) x reply × IsAfter s (earlier ++ x ∷ []) w')
step_next (Ok reply) w w' x h moves = λ s earlier now. (reply_after s earlier w x reply now h, after_more s earlier w w' x now moves)
step_next (Err e) w w' x h moves = tt

-- ---- a step of the parts is a step of the server

both_move : {K L A E : Type 0} (r : Result A E) (u u' : WorldView K L) (x : Step) → OnOk r (RecordsMove (records_in u) (records_in u') (status_in u) x) → OnOk r (StatusesMove (records_in u) (status_in u) (status_in u') x) → OnOk r (Moves u u' x)
both_move (Ok a) u u' x h k = record { records = h; statuses = k }
both_move (Err e) u u' x h k = tt

pub moves_of : {K L A E : Type 0} (r : Result A E) (w w' u u' : WorldView K L) (x : Step) → u ≡ w → u' ≡ w' → OnOk r (RecordsMove (records_in u) (records_in u') (status_in u) x) → OnOk r (StatusesMove (records_in u) (status_in u) (status_in u') x) → OnOk r (Moves w w' x)
moves_of r w w' u u' x is is' h k = subst (λ v. OnOk r (Moves v w' x)) is (subst (λ v. OnOk r (Moves u v x)) is' (both_move r u u' x h k))

both_stay : {K L A E : Type 0} (r : Result A E) (u u' : WorldView K L) → OnErr r (shard_journals u'.shards ≡ shard_journals u.shards) → OnErr r (book_journals u'.books ≡ book_journals u.books) → OnErr r ((p : TransactionKey) → status_in u' p ≡ status_in u p) → OnErr r (Stays u u')
both_stay (Ok a) u u' h b k = tt
both_stay (Err e) u u' h b k = record { shard_journals = h; book_journals = b; records = λ room. ap (λ js. records_of js room) h; statuses = k }

-- a change that holds of two servers holds of those that they are
pub changed_of : {K L : Type 0} (Change : WorldView K L → WorldView K L → Type 0) (w w' u u' : WorldView K L) → u ≡ w → u' ≡ w' → Change u u' → Change w w'
changed_of Change w w' u u' is is' h = subst (λ v. Change v w') is (subst (λ v. Change u v) is' h)

pub stays_of : {K L A E : Type 0} (r : Result A E) (w w' u u' : WorldView K L) → u ≡ w → u' ≡ w' → OnErr r (shard_journals u'.shards ≡ shard_journals u.shards) → OnErr r (book_journals u'.books ≡ book_journals u.books) → OnErr r ((p : TransactionKey) → status_in u' p ≡ status_in u p) → OnErr r (Stays w w')
stays_of r w w' u u' is is' h b k = subst (λ v. OnErr r (Stays v w')) is (subst (λ v. OnErr r (Stays u v)) is' (both_stay r u u' h b k))

-- what stays is as after the same steps
pub after_none_more : {K L : Type 0} (s : Start) (steps : List Step) (w w' : WorldView K L) → IsAfter s steps w → Stays w w' → IsAfter s steps w'
after_none_more s steps w w' now stays = record {
  records = λ room. stays.records room ∙ now.records room;
  statuses = λ p. stays.statuses p ∙ now.statuses p;
}
