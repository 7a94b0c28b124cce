-- What becomes of an offered event, by what a record says of it.
use Rattle.std.proofs.Common.{◌≡◌, ◌&&◌, Bool, true, false, not, List, [], ◌++◌, length, refl, sym, ap, ◌∙◌, Option, Some, None}
use Rattle.std.proofs.lemmas.List.{length-map}
use Rattle.std.specs.Prelude.{IsTrue, OnErr, Result, Ok, Err, nat_le, nat_lt, is_some, is_none, codes, bytes_eq, option_map, option_and_then, unwrap_or, if◌then◌else◌}
use Rattle.std.specs.List.{list_any}
use Rattle.serde_json.specs.Find.{as_str}
use Rattle.mx_ident.specs.Identifier.{refuse_if}
use Rattle.mx_redact.specs.Fields.{Event, is_text, kind}
use Rattle.mx_redact.specs.Hashes.{hash_holds}
use Rattle.mx_redact.specs.Redaction.{redact}
use Rattle.mx_pdu.specs.Event.{has_kind, state_key_of, auth_ids}
use Rattle.mx_pdu.proofs.RedactionLemmas.{kept-field, prev-redact, auth-redact}
use Rattle.mx_auth.specs.Rules.{rules}
use Rattle.mx_auth.specs.declared.refusals.Rule.{Rule}
use Rattle.mx_graph.specs.Adding.{most_rows}
use Rattle.mx_graph.specs.Record.{Row, place_of}
use Rattle.mx_orders.specs.StateMap.{view}
use Rattle.mx_receipt.specs.Receipt.{Kept, created_version, rows_of, kept_at, lacks_cited, verdict, offer_error}
use Rattle.mx_receipt.specs.TimelineView.{IsSoundCreate, TimelineView}
use Rattle.mx_receipt.specs.declared.refusals.NotReceived.{NotReceived}
use Rattle.mx_receipt.specs.declared.refusals.NotReceived.TheVariants as received
use Rattle.mx_receipt.specs.declared.verdicts.Verdict.{Verdict}
use Rattle.mx_receipt.proofs.BeginLemmas.{no_ids}
use Rattle.mx_room.specs.Hosting.{host_error, reopen_error}
use Rattle.mx_room.specs.Offer.{Offered, as_kept, is_kept, new_outcome, allowed_outcome, refusal_by, refusal_error}
use Rattle.mx_room.specs.declared.hosting.NotARoom.TheVariants.{BreaksRule}
use Rattle.mx_room.specs.declared.outcomes.Outcome.{Outcome}
use Rattle.mx_room.specs.declared.outcomes.Outcome.TheVariants as outcome
use Rattle.mx_room.specs.declared.outcomes.Refusal.{Refusal}
use Rattle.mx_room.specs.declared.outcomes.Refusal.TheVariants.{SecondCreate, Signature, MissingEvents, RoomFull}

not_refused : {X : Type 0} (b : Bool) (r : X) (next : Option X) → refuse_if b r next ≡ None → (b ≡ false) × (next ≡ None)
not_refused true r next e = absurd (cc e)
not_refused false r next e = (refl, e)

and_parts : (a b : Bool) → not (a && b) ≡ false → (a ≡ true) × (b ≡ true)
and_parts true true e = (refl, refl)
and_parts true false e = absurd (cc e)
and_parts false b e = absurd (cc e)

no_rule : (o : Option Rule) → option_map BreaksRule o ≡ None → o ≡ None
no_rule None e = refl
no_rule (Some rule) e = absurd (cc e)

-- an event that makes a room is a sound create event
pub sound-of : (o : Offered) → host_error o ≡ None → IsSoundCreate o.pdu
unfolding host_error
sound-of o h =
    let first = not_refused (not (has_kind (codes "m.room.create") o.pdu && is_text [] (state_key_of o.pdu))) _ _ h in
    let second = not_refused (nat_lt 0 (length (auth_ids o.pdu))) _ _ first.1 in
    let third = not_refused (not o.signed) _ _ second.1 in
    let fourth = not_refused (not (hash_holds o.pdu)) _ _ third.1 in
    let parts = and_parts (has_kind (codes "m.room.create") o.pdu) (is_text [] (state_key_of o.pdu)) first.0 in
    record { kind = parts.0; state_key = parts.1; allowed = no_rule (rules (created_version o.pdu) o.pdu (view [] [])) fourth.1; auth_events = no_ids (auth_ids o.pdu) second.0 }

-- and so is one that was kept
pub sound-kept : (e : Event) → reopen_error e ≡ None → IsSoundCreate e
unfolding reopen_error
sound-kept e h =
    let first = not_refused (not (has_kind (codes "m.room.create") e && is_text [] (state_key_of e))) _ _ h in
    let second = not_refused (nat_lt 0 (length (auth_ids e))) _ _ first.1 in
    let parts = and_parts (has_kind (codes "m.room.create") e) (is_text [] (state_key_of e)) first.0 in
    record { kind = parts.0; state_key = parts.1; allowed = no_rule (rules (created_version e) e (view [] [])) second.1; auth_events = no_ids (auth_ids e) second.0 }

-- ---- the form in which an event is kept

kind-redact : (e : Event) → kind (redact e) ≡ kind e
kind-redact e = ap (λ o. unwrap_or (option_and_then as_str o) []) (kept-field (codes "type") e refl refl)

lacks-redact : (rows : List Row) (e : Event) → lacks_cited rows (redact e) ≡ lacks_cited rows e
lacks-redact rows e = λ i. list_any (λ id. is_none (place_of rows id)) (prev-redact e i ++ auth-redact e i)

-- what redaction keeps is the same in that form
as_kept-same : {X : Type 0} (f : Event → X) → ((e : Event) → f (redact e) ≡ f e) → (o : Offered) → f (as_kept o) ≡ f o.pdu
as_kept-same f same o = by (hash_holds o.pdu)
  where
    by : (b : Bool) → f (if b then o.pdu else redact o.pdu) ≡ f o.pdu
    by true = refl
    by false = same o.pdu

-- ---- of a new id

abbrev outcome_by : Bool → Bool → Bool → Bool → Verdict → Outcome
outcome_by create signed lacks full v =
    if create then outcome.Refused SecondCreate
    else (if not signed then outcome.Refused Signature
    else (if lacks then outcome.Refused MissingEvents
    else (if full then outcome.Refused RoomFull else outcome.Kept v)))

abbrev error_by : Bool → Bool → Bool → Bool → Option NotReceived
error_by known create lacks full = refuse_if known received.Known (refuse_if create received.SecondCreate (refuse_if lacks received.MissingEvents (refuse_if full received.RoomFull None)))

abbrev refused_by : Bool → Bool → Bool → Bool → Option Refusal
refused_by create signed lacks full = refuse_if create SecondCreate (refuse_if (not signed) Signature (option_map refusal_by (error_by false create lacks full)))

by-none : (create signed lacks full : Bool) (v : Verdict) → refused_by create signed lacks full ≡ None → outcome_by create signed lacks full v ≡ outcome.Kept v
by-none true signed lacks full v e = absurd (cc e)
by-none false false lacks full v e = absurd (cc e)
by-none false true true full v e = absurd (cc e)
by-none false true false true v e = absurd (cc e)
by-none false true false false v e = refl

by-some : (create signed lacks full : Bool) (v : Verdict) (refusal : Refusal) → refused_by create signed lacks full ≡ Some refusal → outcome_by create signed lacks full v ≡ outcome.Refused refusal
by-some true signed lacks full v refusal e = ap outcome.Refused (let f : SecondCreate ≡ refusal = cc in f)
by-some false false lacks full v refusal e = ap outcome.Refused (let f : Signature ≡ refusal = cc in f)
by-some false true true full v refusal e = ap outcome.Refused (let f : MissingEvents ≡ refusal = cc in f)
by-some false true false true v refusal e = ap outcome.Refused (let f : RoomFull ≡ refusal = cc in f)
by-some false true false false v refusal e = absurd (cc e)

no-error : (create signed lacks full : Bool) → refused_by create signed lacks full ≡ None → error_by false create lacks full ≡ None
no-error true signed lacks full e = absurd (cc e)
no-error false false lacks full e = absurd (cc e)
no-error false true true full e = absurd (cc e)
no-error false true false true e = absurd (cc e)
no-error false true false false e = refl

module _ (kept : List Kept) (o : Offered) (new : place_of (rows_of kept) o.id ≡ None) where
  abbrev create : Bool
  create = has_kind (codes "m.room.create") o.pdu

  abbrev lacks : Bool
  lacks = lacks_cited (rows_of kept) o.pdu

  abbrev full : Bool
  full = nat_le most_rows (length kept)

  create-same : has_kind (codes "m.room.create") (as_kept o) ≡ create
  create-same = as_kept-same (has_kind (codes "m.room.create")) (λ e. ap (λ k. bytes_eq k (codes "m.room.create")) (kind-redact e)) o

  lacks-same : lacks_cited (rows_of kept) (as_kept o) ≡ lacks
  lacks-same = as_kept-same (lacks_cited (rows_of kept)) (lacks-redact (rows_of kept)) o

  full-same : nat_le most_rows (length (rows_of kept)) ≡ full
  full-same = ap (nat_le most_rows) (length-map kept _)

  outcome-is : allowed_outcome kept o ≡ outcome_by create o.signed lacks full (verdict kept (as_kept o))
  unfolding allowed_outcome
  outcome-is =
      ap (λ w. elim w [ None ↦ new_outcome kept o.signed (as_kept o) | Some p ↦ outcome.Known (kept_at kept p).verdict ]) new
      ∙ λ i. outcome_by (create-same i) o.signed (lacks-same i) full (verdict kept (as_kept o))

  refusal-is : refusal_error kept o ≡ refused_by create o.signed lacks full
  unfolding refusal_error offer_error
  refusal-is = λ i. refuse_if create SecondCreate (refuse_if (not o.signed) Signature (option_map refusal_by (error_by (ap is_some new i) create lacks (full-same i))))

  error-is : offer_error (rows_of kept) o.id (as_kept o) ≡ error_by false create lacks full
  unfolding offer_error
  error-is = λ i. error_by (ap is_some new i) (create-same i) (lacks-same i) (full-same i)

  pub kept-outcome : refusal_error kept o ≡ None → allowed_outcome kept o ≡ outcome.Kept (verdict kept (as_kept o))
  kept-outcome e = outcome-is ∙ by-none create o.signed lacks full (verdict kept (as_kept o)) (sym refusal-is ∙ e)

  pub refused-outcome : (refusal : Refusal) → refusal_error kept o ≡ Some refusal → allowed_outcome kept o ≡ outcome.Refused refusal
  refused-outcome refusal e = outcome-is ∙ by-some create o.signed lacks full (verdict kept (as_kept o)) refusal (sym refusal-is ∙ e)

  pub kept-error : refusal_error kept o ≡ None → offer_error (rows_of kept) o.id (as_kept o) ≡ None
  kept-error e = error-is ∙ no-error create o.signed lacks full (sym refusal-is ∙ e)

  pub kept-told : refusal_error kept o ≡ None → IsTrue (is_kept (allowed_outcome kept o))
  kept-told e = ap is_kept (kept-outcome e)

-- ---- results

pub at-error : {X E P : Type 0} (r : Result X E) → P → OnErr r P
at-error (Ok x) p = tt
at-error (Err e) p = p

-- ---- timelines

-- one with no event prepared
pub stays : (t : TimelineView) → t.prepared ≡ None → t ≡ record { kept = t.kept; prepared = None }
stays t e = λ i. record { kept = t.kept; prepared = e i }
