-- The steps of a request, one after another.
use Rattle.std.proofs.Common.{◌≡◌, ◌≢◌, ℕ, zero, suc, ◌<◌, List, [], ◌∷◌, ◌++◌, Some, length, refl, sym, ◌∙◌, ap, arith, append-nil, append_assoc}
use Rattle.std.proofs.lemmas.List.{length-append, length-map}
use Rattle.mx_book.specs.declared.transaction_keys.TransactionKey.{TransactionKey}
use Rattle.mx_world.specs.Calls.{Start}
use Rattle.mx_world.specs.View.{WorldView}
use Rattle.mx_world.specs.Worlds.{IsAfter}
use Rattle.mx_world.specs.declared.steps.Step.{Step}
use Rattle.mx_world.specs.declared.steps.Step.TheVariants.{Host, Open, Next, Close, Join, Ask}
use Rattle.mx_world.specs.declared.steps.StepReply.{StepReply}
use Rattle.mx_world.specs.declared.steps.StepReply.TheVariants.{OfRoom, Opened, Replayed, Busy, NotOpen, NoMore, OfEvent, MoreLeft, Closed}
use Rattle.mx_requests.specs.Calls.{Call}
use Rattle.mx_log.specs.LineRuns.{AreDone, AreTaken, AreTakenFrom, AreTurned, IsCalled, IsTaken, nexts}
use Rattle.mx_step_replies.specs.Steps.{first_step, reply_to, step_shown, StepView, open_step, next_step, close_step}
use Rattle.mx_log.specs.LineSteps.{first_of, following, last_of, once_open, steps_from, turns}
use Rattle.mx_pdu.specs.declared.offering.Offered.{Offered}
use Rattle.mx_requests.specs.ReplyBodies.{Response}
use Rattle.mx_log.proofs.LineRunLemmas.{map_one, replies_append}

pub none_done : {K L : Type 0} (s : Start) (earlier : List Step) (w : WorldView K L) → IsAfter s earlier w → AreDone earlier [] [] s w
none_done s earlier w now = record { count = refl; replied = tt; after = rw (append-nil earlier) now }

pub one_done : {K L : Type 0} (s : Start) (earlier : List Step) (x : Step) (r : StepReply) (w : WorldView K L) → IsTaken s earlier x r w → AreDone earlier (x ∷ []) (r ∷ []) s w
one_done s earlier x r w taken = record { count = refl; replied = (taken.is_reply, tt); after = taken.after }

-- a step and those after it
pub then_done : {K L : Type 0} (s : Start) (earlier steps : List Step) (replies : List StepReply) (x : Step) (r : StepReply) (w w' : WorldView K L)
    → IsTaken s earlier x r w → AreDone (earlier ++ x ∷ []) steps replies s w' → AreDone earlier (x ∷ steps) (r ∷ replies) s w'
then_done s earlier steps replies x r w w' taken rest = record {
  count = ap suc rest.count;
  replied = (taken.is_reply, rest.replied);
  after = rw (← append_assoc earlier (x ∷ []) steps) rest.after;
}

-- steps and one after them
pub done_more : {K L : Type 0} (s : Start) (earlier steps : List Step) (replies : List StepReply) (x : Step) (r : StepReply) (w w' : WorldView K L)
    → AreDone earlier steps replies s w → IsTaken s (earlier ++ steps) x r w' → AreDone earlier (steps ++ x ∷ []) (replies ++ r ∷ []) s w'
done_more s earlier steps replies x r w w' before taken = record {
  count = omega (arith, before.count, length-append replies (r ∷ []), length-append steps (x ∷ []));
  replied = replies_append s earlier steps (x ∷ []) replies (r ∷ []) before.replied (taken.is_reply, tt);
  after = rw (← append_assoc earlier steps (x ∷ [])) taken.after;
}

nexts_more : (key : TransactionKey) (n : ℕ) → nexts key n ++ next_step key ∷ [] ≡ nexts key (suc n)
nexts_more key zero = refl
nexts_more key (suc n) = ap (λ l. next_step key ∷ l) (nexts_more key n)

-- the turns of events are as many as they
pub turns_so_many : (key : TransactionKey) (events : List Offered) → nexts key (length events) ++ close_step key ∷ [] ≡ turns key events
turns_so_many key [] = refl
turns_so_many key (o ∷ os) = ap (λ l. next_step key ∷ l) (turns_so_many key os)

pub none_taken : {K L : Type 0} (key : TransactionKey) (s : Start) (earlier : List Step) (w : WorldView K L) → IsAfter s earlier w → AreTaken key 0 s earlier w
none_taken key s earlier w now = record { steps = []; replies = []; shown = refl; done = none_done s earlier w now }

pub taken_more : {K L : Type 0} (key : TransactionKey) (n : ℕ) (s : Start) (earlier : List Step) (r : StepReply) (w w' : WorldView K L)
    (before : AreTaken key n s earlier w) → IsTaken s (earlier ++ before.steps) (Next key) r w' → AreTaken key (suc n) s earlier w'
taken_more key n s earlier r w w' before taken = record {
  steps = before.steps ++ Next key ∷ [];
  replies = before.replies ++ r ∷ [];
  shown = map_one step_shown before.steps (Next key) ∙ ap (λ l. l ++ next_step key ∷ []) before.shown ∙ nexts_more key n;
  done = done_more s earlier before.steps before.replies (Next key) r w w' before.done taken;
}

last_at : (rs : List StepReply) (r : StepReply) → last_of (rs ++ r ∷ []) ≡ r
last_at [] r = refl
last_at (a ∷ []) r = refl
last_at (a ∷ b ∷ rs) r = last_at (b ∷ rs) r

last_more : (r : StepReply) (rs : List StepReply) → 0 < length rs → last_of (r ∷ rs) ≡ last_of rs
last_more r [] some = absurd (omega (arith, some))
last_more r (a ∷ rs) some = refl

pub all_turned : {K L : Type 0} (key : TransactionKey) (n : ℕ) (s : Start) (earlier : List Step) (r : StepReply) (w w' : WorldView K L)
    (before : AreTaken key n s earlier w) → IsTaken s (earlier ++ before.steps) (Close key) r w' → AreTurned key n r s earlier w'
all_turned key n s earlier r w w' before taken = record {
  steps = before.steps ++ Close key ∷ [];
  replies = before.replies ++ r ∷ [];
  shown = map_one step_shown before.steps (Close key) ∙ ap (λ l. l ++ close_step key ∷ []) before.shown;
  done = done_more s earlier before.steps before.replies (Close key) r w w' before.done taken;
  is_last = sym (last_at before.replies r);
}

one-close : (key : TransactionKey) (n : ℕ) → 0 < length (nexts key n ++ close_step key ∷ [])
one-close key n = rw (length-append (nexts key n) (close_step key ∷ [])) (omega arith)

nothing_once_open : (r : StepReply) (steps : List StepView) → ((n : ℕ) → r ≢ Opened n) → once_open (Some r) steps ≡ []
nothing_once_open (OfRoom a) steps other = refl
nothing_once_open (Opened n) steps other = absurd (other n refl)
nothing_once_open (Replayed b) steps other = refl
nothing_once_open Busy steps other = refl
nothing_once_open NotOpen steps other = refl
nothing_once_open NoMore steps other = refl
nothing_once_open (OfEvent t) steps other = refl
nothing_once_open (MoreLeft n) steps other = refl
nothing_once_open (Closed b) steps other = refl

once_open-none : (r : StepReply) → once_open (Some r) [] ≡ []
once_open-none (OfRoom a) = refl
once_open-none (Opened n) = refl
once_open-none (Replayed b) = refl
once_open-none Busy = refl
once_open-none NotOpen = refl
once_open-none NoMore = refl
once_open-none (OfEvent t) = refl
once_open-none (MoreLeft n) = refl
once_open-none (Closed b) = refl

following-none : (x : Step) → ((key : TransactionKey) (events : _) → x ≢ Open key events) → following (step_shown x) ≡ []
following-none (Host o) other = refl
following-none (Open key events) other = absurd (other key events refl)
following-none (Next key) other = refl
following-none (Close key) other = refl
following-none (Join origin o) other = refl
following-none (Ask origin now q) other = refl

-- an opening that was answered so, with the turns of its events and its close
pub opening_taken : {K L : Type 0} (x : Step) (n : ℕ) (key : TransactionKey) (events : List Offered) (last : StepReply) (s : Start) (earlier : List Step) (w w' : WorldView K L)
    → step_shown x ≡ open_step key events → IsTaken s earlier x (Opened n) w → AreTurned key (length events) last s (earlier ++ x ∷ []) w'
    → AreTakenFrom (step_shown x) last s earlier w'
opening_taken x n key events last s earlier w w' is taken turned =
    let many : length turned.replies ≡ length (nexts key (length events) ++ close_step key ∷ []) =
    turned.done.count ∙ sym (length-map turned.steps step_shown) ∙ ap length turned.shown in
    record {
      steps = x ∷ turned.steps;
      replies = Opened n ∷ turned.replies;
      shown = ap (λ l. step_shown x ∷ l) (turned.shown ∙ turns_so_many key events ∙ ap following (sym is));
      done = then_done s earlier turned.steps turned.replies x (Opened n) w w' taken turned.done;
      is_last = turned.is_last ∙ sym (last_more (Opened n) turned.replies (rw many (one-close key (length events))));
    }

-- a first step that nothing follows
only_taken : {K L : Type 0} (x : Step) (r : StepReply) (s : Start) (earlier : List Step) (w : WorldView K L)
    → once_open (Some r) (following (step_shown x)) ≡ [] → IsTaken s earlier x r w → AreTakenFrom (step_shown x) r s earlier w
only_taken x r s earlier w none taken = record {
  steps = x ∷ [];
  replies = r ∷ [];
  shown = ap (λ l. step_shown x ∷ l) (sym none);
  done = one_done s earlier x r w taken;
  is_last = refl;
}

-- one that opens no transaction
pub other_taken : {K L : Type 0} (x : Step) (r : StepReply) (s : Start) (earlier : List Step) (w : WorldView K L)
    → ((key : TransactionKey) (events : _) → x ≢ Open key events) → IsTaken s earlier x r w → AreTakenFrom (step_shown x) r s earlier w
other_taken x r s earlier w other taken = only_taken x r s earlier w (ap (once_open (Some r)) (following-none x other) ∙ once_open-none r) taken

-- one by which none came to be open
pub closed_taken : {K L : Type 0} (x : Step) (r : StepReply) (s : Start) (earlier : List Step) (w : WorldView K L) → ((n : ℕ) → r ≢ Opened n)
    → IsTaken s earlier x r w → AreTakenFrom (step_shown x) r s earlier w
closed_taken x r s earlier w other taken = only_taken x r s earlier w (nothing_once_open r (following (step_shown x)) other) taken

-- a call by its first step
pub taken_called : {K L : Type 0} (server : List ℕ) (now : ℕ) (call : Call) (first : StepView) (last : StepReply) (response : Response) (s : Start)
    (earlier : List Step) (w : WorldView K L) → first ≡ first_step now call → AreTakenFrom first last s earlier w → response ≡ reply_to server first last
    → IsCalled server now call response s earlier w
taken_called server now call first last response s earlier w is taken written = record {
  steps = taken.steps;
  replies = taken.replies;
  shown = taken.shown ∙ ap (λ f. steps_from f (first_of taken.replies)) is;
  done = taken.done;
  is_response = written ∙ ap (reply_to server first) taken.is_last ∙ ap (λ f. reply_to server f (last_of taken.replies)) is;
}
