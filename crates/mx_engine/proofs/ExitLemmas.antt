-- What an exit of a call of a shard leaves, by what its own calls say.
use Rattle.std.proofs.Common.{◌≡◌, ◌≤◌, ◌⊎◌, inl, ℕ, true, false, List, [], ◌∷◌, length, Option, Some, None, refl, sym, subst, arith}
use Rattle.std.specs.Prelude.{◌↔◌, Result, Ok, Err, OnOk, OnErr, option_to_list}
use Rattle.std.specs.Result.{IsErrOf}
use Rattle.std.proofs.lemmas.List.{length-map}
use Rattle.mx_dock.proofs.ViewLemmas.{unheld}
use Rattle.mx_pdu.specs.Event.{room_of}
use Rattle.mx_receipt.specs.Receipt.{Kept}
use Rattle.mx_room.specs.Hosting.{host_error}
use Rattle.mx_room.specs.Joins.{join_reply, row_by_join}
use Rattle.mx_room.specs.Offer.{Offered, offer_outcome, row_by}
use Rattle.mx_room.specs.declared.hosting.NotARoom.{NotARoom}
use Rattle.mx_keeper.specs.declared.rows.ShardRow.{ShardRow}
use Rattle.mx_keeper.specs.declared.refusals.CallError.{CallError}
use Rattle.mx_keeper.specs.declared.refusals.CallError.TheVariants.{Storage}
use Rattle.mx_shard.specs.LoneRoom.{Call, to_host, to_offer, to_join, to_ask, sent_call, call_room, added, first_rows}
use Rattle.mx_shard.specs.Journal.{Entry, entry_of, record_of, journal_after, stored}
use Rattle.mx_shard.specs.View.{ShardView}
use Rattle.mx_shard.specs.declared.sendings.Sending.{Sending}
use Rattle.mx_shard.proofs.ChangeLemmas.{sent_room}
use Rattle.mx_engine.specs.Calling.{entries_by}
use Rattle.mx_engine.specs.Crashes.{LeavesOnly, IsShardExit}

-- ---- a call adds one entry at the most

few-option : (o : Option Kept) → length (option_to_list o) ≤ 1
few-option None = omega arith
few-option (Some k) = omega arith

few-first : (o : Offered) (error : Option NotARoom) → length (first_rows o error) ≤ 1
few-first o None = omega arith
few-first o (Some error) = omega arith

few-rows : (kept : List Kept) (call : Call) → length (added kept call) ≤ 1
few-rows [] (to_host o) = few-first o (host_error o)
few-rows [] (to_offer origin o) = omega arith
few-rows [] (to_join origin o) = omega arith
few-rows [] (to_ask origin now q) = omega arith
few-rows (k ∷ ks) (to_host o) = omega arith
few-rows (k ∷ ks) (to_offer origin o) = few-option (row_by o (offer_outcome (k ∷ ks) origin o))
few-rows (k ∷ ks) (to_join origin o) = few-option (row_by_join o (join_reply (k ∷ ks) origin o))
few-rows (k ∷ ks) (to_ask origin now q) = omega arith

few-entries : (journal : List Entry) (caller : ℕ) (call : Call) (room : Option (List ℕ))
    → length (entries_by journal caller call room) ≤ 1
few-entries journal caller call None = omega arith
few-entries journal caller call (Some room) =
    subst (λ n. n ≤ 1) (sym (length-map (added (record_of journal room) call) (entry_of room caller)))
    (few-rows (record_of journal room) call)

-- ---- a call of a shard

stays-at : {A : Type 0} (P : Type 0) (result : Result A CallError) → OnErr result P → result ≡ Err Storage → P
stays-at P (Ok a) stays is = absurd (let e : Ok a ≡ Err Storage = is in cc)
stays-at P (Err e) stays is = stays

-- after `Ok`
pub durable-by : {A E H : Type 0} (P : Type 0) (result : Result A E) → (H → OnOk result P) → OnOk result (H → P)
durable-by P (Ok a) durable = durable
durable-by P (Err e) durable = tt

module _ {K : Type 0} (is_honest : K → Type 0) (may_leave : K → Option (List ShardRow) → Type 0) where
  -- of a query, which changes nothing
  pub asked-exit : (caller : ℕ) (call : Call) (shard : ShardView K)
      → IsShardExit is_honest may_leave (entries_by shard.journal caller call (call_room call)) shard shard
  asked-exit caller call shard = record {
    few = few-entries shard.journal caller call (call_room call);
    refused = λ _. refl;
    honest = λ honest. honest;
    crash = λ _ left may. inl may;
  }

module _ {K A : Type 0} (is_honest : K → Type 0) (may_leave : K → Option (List ShardRow) → Type 0) where
  pub called-exit : (caller : ℕ) (room : List ℕ) (call : Call) (old new : ShardView K) (result : Result A CallError)
      → (IsErrOf result Storage ↔ (new.is_refused ≡ true)) → OnErr result (new.journal ≡ old.journal) →
      (is_honest new.keeper → is_honest old.keeper) →
      (is_honest new.keeper → (left : Option (List ShardRow)) → may_leave new.keeper left
      → may_leave old.keeper left ⊎ (left ≡ Some (stored (journal_after old.journal caller room call)))) →
      IsShardExit is_honest may_leave (entries_by old.journal caller call (Some room)) old new
  called-exit caller room call old new result refused stays honest crash = record {
    few = few-entries old.journal caller call (Some room);
    refused = λ is. stays-at (new.journal ≡ old.journal) result stays (refused.1 is);
    honest = honest;
    crash = crash;
  }

  -- of an event that a server sends
  pub sent-exit : (s : Sending) (origin : List ℕ) (o : Offered) (caller : ℕ) (old new : ShardView K)
      (result : Result A CallError) → (IsErrOf result Storage ↔ (new.is_refused ≡ true))
      → OnErr result (new.journal ≡ old.journal) →
      (is_honest new.keeper → is_honest old.keeper) →
      (is_honest new.keeper → (left : Option (List ShardRow)) → may_leave new.keeper left
      → may_leave old.keeper left
      ⊎ (left ≡ Some (stored (journal_after old.journal caller (room_of o.pdu) (sent_call s origin o))))) →
      IsShardExit is_honest may_leave
      (entries_by old.journal caller (sent_call s origin o) (call_room (sent_call s origin o))) old new
  sent-exit s origin o caller old new result refused stays honest crash =
      subst (λ room. IsShardExit is_honest may_leave (entries_by old.journal caller (sent_call s origin o) room) old new)
      (sym (sent_room s origin o))
      (called-exit caller (room_of o.pdu) (sent_call s origin o) old new result refused stays honest crash)

  -- of a query
  pub asked-durable : (shard : ShardView K) (result : Result A CallError)
      → (IsErrOf result Storage ↔ (shard.is_refused ≡ true))
      → (shard.is_refused ≡ false → LeavesOnly is_honest may_leave shard.keeper (stored shard.journal)) →
      OnOk result (LeavesOnly is_honest may_leave shard.keeper (stored shard.journal))
  asked-durable shard (Ok a) refused whole =
      whole (unheld shard.is_refused (λ is. let e : Ok a ≡ Err Storage = refused.1 is in cc))
  asked-durable shard (Err e) refused whole = tt
