-- What a request is answered by an engine, and what a refused one leaves.
use Rattle.std.proofs.Common.{◌≡◌, ℕ, List, refl, sym, subst, inl}
use Rattle.std.specs.Prelude.{Option, None, Some, Ok, Err, IfSome}
use Rattle.mx_pdu.specs.Offers.{Judge}
use Rattle.mx_engine.specs.Views.{BerthView, AreSameViews}
use Rattle.mx_engine.proofs.TurnLemmas.{nothing_refl}
use Rattle.mx_engine.proofs.BerthLemmas.{same_refl}
use Rattle.mx_requests.specs.Calls.{Call, Request, sends, asks, joins, call_of}
use Rattle.mx_requests.specs.ReplyBodies.{Response, failure}
use Rattle.mx_requests.specs.Requests.{Read}
use Rattle.mx_keeper.specs.declared.refusals.CallError.{CallError}
use Rattle.mx_keeper.specs.declared.refusals.CallError.TheVariants as refused
use Rattle.mx_wire.specs.Responses.{ShardViews, BookViews, IsCallAnswered, IsCallRefused, IsReadAnswered, IsReadRefused, IsResponse, IsUnanswered, unavailable}
use Rattle.mx_requests.specs.declared.faults.Fault.{Fault}

-- a request that makes a call is answered as the call
pub call_answered : (judges : Judge) (server : List ℕ) (now caller : ℕ) (shards : ShardViews) (books : BookViews) (shards' : ShardViews) (books' : BookViews) (r : Request) (call : Call) (response : Response) → call_of judges server r ≡ Ok call → IsCallAnswered server now caller call shards books shards' books' response → IsResponse judges server now caller shards books shards' books' r response
call_answered judges server now caller shards books shards' books' r call response is told =
    subst (λ read. IsReadAnswered server now caller read shards books shards' books' response) (sym is) told

-- and it leaves what the call leaves
pub call_refused : (judges : Judge) (server : List ℕ) (caller : ℕ) (shards : ShardViews) (books : BookViews)
    (shards' : ShardViews) (books' : BookViews) (r : Request) (call : Call) (error : CallError)
    → call_of judges server r ≡ Ok call
    → IsCallRefused caller call shards books shards' books' error → IsUnanswered judges server caller shards books shards' books' r error
call_refused judges server caller shards books shards' books' r call error is left =
    subst (λ read. IsReadRefused caller read shards books shards' books' error) (sym is) left

-- a request with a fault is told it
pub fault_answered : (judges : Judge) (server : List ℕ) (now caller : ℕ) (shards : ShardViews) (books : BookViews) (r : Request) (fault : Fault) (response : Response) → call_of judges server r ≡ Err fault → response ≡ failure fault → IsResponse judges server now caller shards books shards books r response
fault_answered judges server now caller shards books r fault response is told =
    subst (λ read. IsReadAnswered server now caller read shards books shards books response) (sym is) (told, refl, refl)

-- where nothing was asked, whatever the request asks for
none_called : (caller : ℕ) (call : Call) (shards : ShardViews) (books : BookViews) (error : CallError) → IsCallRefused caller call shards books shards books error
none_called caller (sends origin txn events) shards books error = inl (inl (nothing_refl books, refl))
none_called caller (asks origin q) shards books error = (nothing_refl shards, refl)
none_called caller (joins origin o) shards books error = (inl (nothing_refl shards), refl)

none_read : (caller : ℕ) (read : Read Call) (shards : ShardViews) (books : BookViews) (error : CallError) → IsReadRefused caller read shards books shards books error
none_read caller (Ok call) shards books error = none_called caller call shards books error
none_read caller (Err fault) shards books error = (refl, refl)

pub none_asked : (judges : Judge) (server : List ℕ) (caller : ℕ) (shards : ShardViews) (books : BookViews) (r : Request) (error : CallError)
    → IsUnanswered judges server caller shards books shards books r error
none_asked judges server caller shards books r error = none_read caller (call_of judges server r) shards books error

-- ---- refused requests, of which one error is told

pub call_unanswered : (judges : Judge) (server : List ℕ) (caller : ℕ) (shards : ShardViews) (books : BookViews) (shards' : ShardViews) (books' : BookViews) (r : Request) (call : Call) (response : Response) (error : Option CallError) → call_of judges server r ≡ Ok call
    → IfSome error (λ e. IsCallRefused caller call shards books shards' books' e × (response ≡ unavailable e))
    → IfSome error (λ e. IsUnanswered judges server caller shards books shards' books' r e × (response ≡ unavailable e))
call_unanswered judges server caller shards books shards' books' r call response None is told = told
call_unanswered judges server caller shards books shards' books' r call response (Some e) is told =
    (call_refused judges server caller shards books shards' books' r call e is told.0, told.1)

pub fault_unanswered : (judges : Judge) (server : List ℕ) (caller : ℕ) (shards : ShardViews) (books : BookViews) (r : Request) (response : Response) (error : Option CallError)
    → IfSome error (λ e. (e ≡ refused.Memory) × (response ≡ unavailable e))
    → IfSome error (λ e. IsUnanswered judges server caller shards books shards books r e × (response ≡ unavailable e))
fault_unanswered judges server caller shards books r response None told = told
fault_unanswered judges server caller shards books r response (Some e) told = (none_asked judges server caller shards books r e, told.1)

-- ---- views

pub same_when : {E : Type 0} (old new : List (BerthView E)) → new ≡ old → AreSameViews old new
same_when old new is = subst (λ views. AreSameViews old views) (sym is) (same_refl old)
