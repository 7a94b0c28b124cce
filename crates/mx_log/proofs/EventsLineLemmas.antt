-- Lines whose events were read beside their other members.
use Rattle.std.proofs.Common.{◌≡◌, ℕ, Bool, true, false, if◌then◌else◌, List, length, nat_le, bytes_eq, codes, refl, sym, ap, ap₂, ◌∙◌}
use Rattle.std.proofs.lemmas.Bool.{true≢false}
use Rattle.std.proofs.lemmas.Slice.Eq.{bytes_eq-Decides}
use Rattle.std.specs.List.{list_all, list_any}
use Rattle.std.specs.Prelude.{Option, Some, None, option_map, option_and_then, unwrap_or}
use Prim.Native.String.{String}
use Rattle.serde_json.specs.Data.{Data, object}
use Rattle.serde_json.specs.Find.{as_str}
use Rattle.serde_json.specs.View.{members_view}
use Rattle.mx_book.specs.declared.transaction_keys.TransactionKey.{TransactionKey}
use Rattle.mx_event_reading.specs.BodiesRead.{AreOffered, object_of}
use Rattle.mx_event_reading.specs.declared.objects.EventsRead.{EventsRead}
use Rattle.mx_event_reading.proofs.EventsReadLemmas.{at-pdus, beside-pdus, entries-offered, keys-read}
use Rattle.mx_pdu.specs.Offers.{Judge, offer_by}
use Rattle.mx_pdu.specs.declared.offering.Offered.{Offered}
use Rattle.mx_redact.specs.Fields.{Event, field, is_text, keys_of, text_field, words}
use Rattle.mx_log.specs.Lines.{Line, bad_line, call_form, call_in, close_form, close_of, events_of, formed, has_only, host_form, host_of, key_from, key_in, line_by, line_in, next_form, next_of, open_form, open_in, opening, or_bad}

pub no_events : (key : Option TransactionKey)
    → or_bad (option_and_then (λ k. option_map (opening k) None) key) ≡ bad_line
no_events None = refl
no_events (Some k) = refl

module _ (read : EventsRead) where
  abbrev pub others : Data
  others = object (members_view read.others.entries)

  bad_form : (names : String) (line : Option Line) → list_any (bytes_eq (codes "pdus")) (words names) ≡ false
      → formed names (object_of read) line ≡ bad_line
  bad_form names line out =
      ap (λ b. if b then or_bad line else bad_line)
      (keys-read (λ key. list_any (bytes_eq key) (words names)) read false out)

  both : (b : Bool) (x y : Line) → x ≡ bad_line → y ≡ bad_line → (if b then x else y) ≡ bad_line
  both true x y e f = e
  both false x y e f = f

  -- no form but that of an opened transaction has events
  other_line : (offer : Event → Offered) (step : List ℕ) → bytes_eq step (codes "open") ≡ false
      → line_by offer step (object_of read) ≡ bad_line
  other_line offer step out =
      let d = object_of read in
      let next_or = if bytes_eq step (codes "next") then next_form d
      else (if bytes_eq step (codes "close") then close_form d
      else (if bytes_eq step (codes "call") then call_form d else bad_line)) in
      let call = both (bytes_eq step (codes "call")) (call_form d) bad_line
      (bad_form "step method target authorization now body" (call_in d) refl) refl in
      let close = both (bytes_eq step (codes "close")) (close_form d) _
      (bad_form "step origin txn" (option_map close_of (key_in d)) refl) call in
      let next : next_or ≡ bad_line = both (bytes_eq step (codes "next")) (next_form d) _
      (bad_form "step origin txn" (option_map next_of (key_in d)) refl) close in
      both (bytes_eq step (codes "host")) (host_form offer d) _
      (bad_form "step event" (option_map (host_of offer) (field (codes "event") d)) refl)
      (ap (λ b. if b then open_form offer d else next_or) out ∙ next)

  pub events_line : (offer : Event → Offered) (opens : Bool) → is_text (codes "open") (text_field (codes "step") others) ≡ opens
      → line_in offer (object_of read) ≡ (if opens then open_form offer (object_of read) else bad_line)
  events_line offer opens is =
      ap (λ o. unwrap_or (option_map (λ step. line_by offer step (object_of read)) (option_and_then as_str o)) bad_line)
      (beside-pdus (codes "step") read refl)
      ∙ by (text_field (codes "step") others) opens is
    where
      by : (step : Option (List ℕ)) (b : Bool) → is_text (codes "open") step ≡ b
          → unwrap_or (option_map (λ step. line_by offer step (object_of read)) step) bad_line
          ≡ (if b then open_form offer (object_of read) else bad_line)
      by None true e = absurd (true≢false (sym e))
      by None false e = refl
      by (Some s) true e = ap (λ step. line_by offer step (object_of read)) ((bytes_eq-Decides s (codes "open")).0 e)
      by (Some s) false e = other_line offer s e

  same_key : key_in (object_of read) ≡ key_in others
  same_key =
      ap₂ (λ o t. option_and_then (λ origin. option_and_then (λ txn. key_from origin txn) (option_and_then as_str t))
      (option_and_then as_str o))
      (beside-pdus (codes "origin") read refl) (beside-pdus (codes "txn") read refl)

  module _ (judges : Judge) (are : AreOffered judges read.events.items) where
    pub open_read : (only few : Bool) (key : Option TransactionKey)
        → list_all (λ key. list_any (bytes_eq key) (words "step origin txn pdus")) (keys_of (members_view read.others.entries)) ≡ only
        → nat_le (length read.events.items) 50 ≡ few → key_in others ≡ key
        → open_form (offer_by judges) (object_of read)
        ≡ (if only then or_bad (option_and_then (λ k. option_map (opening k)
        (if few then Some read.events.items else None)) key) else bad_line)
    open_read only few key has counted named =
        let d = object_of read in
        let keys : has_only "step origin txn pdus" d ≡ only =
        keys-read (λ key. list_any (bytes_eq key) (words "step origin txn pdus")) read true refl ∙ has in
        ap (λ b. if b then or_bad (open_in (offer_by judges) d) else bad_line) keys
        ∙ ap₂ (λ o es. if only then or_bad (option_and_then (λ k. option_map (opening k)
        (option_and_then (events_of (offer_by judges)) es)) o) else bad_line) (same_key ∙ named) (at-pdus read)
        ∙ ap (λ es. if only then or_bad (option_and_then (λ k. option_map (opening k) es) key) else bad_line)
        (entries-offered judges 50 few read.events.items are counted)
