-- The events that a body's texts are JSON for.
use Rattle.std.proofs.Common.{◌≡◌, ◌≤◌, ℕ, Bool, true, false, ◌&&◌, if◌then◌else◌, List, [], ◌∷◌, length, map, filter, is_none, refl, sym, ap, ap₂, ◌∙◌}
use Rattle.std.proofs.lemmas.Bool.{le-leb, ltb-false}
use Rattle.std.specs.List.{cons_option}
use Rattle.std.specs.Prelude.{Option, Some, None, option_map, option_and_then}
use Rattle.serde_json.specs.Data.{Data}
use Rattle.serde_json.specs.Written.{compact_text, has_float}
use Rattle.mx_canon.specs.Canonical.{canonical_error, canonical_text}
use Rattle.mx_canon.specs.KeyOrder.{KeysRise}
use Rattle.mx_canon.specs.declared.checking.NotCanonical.{NotCanonical}
use Rattle.mx_canon.proofs.FaultLemmas.{has_float-is_canonical}
use Rattle.mx_canon.proofs.TextLemmas.{canon_same}
use Rattle.mx_redact.specs.Fields.{Event}
use Rattle.mx_pdu.specs.Format.{is_well_formed}
use Rattle.mx_pdu.specs.declared.offering.Offered.{Offered}
use Rattle.mx_pdu.proofs.CanonicalLemmas.{is_none-canonical_error}
use Rattle.mx_pdu.proofs.FormatLemmas.{formed}
use Rattle.mx_pdu.proofs.TextLemmas.{no-error}
use Rattle.mx_body.specs.Bodies.{has_text_within, text_within}
use Rattle.mx_requests.specs.BodyEvents.{offered_if_formed, offered_in}
use Rattle.mx_requests.specs.Requests.{json_of}

-- the length of an event's text
abbrev pub longest : ℕ
longest = 65536

-- a well-formed event has a text that is not too long
has_text : (d : Data) → is_well_formed d ≡ true → has_text_within longest d ≡ true
has_text d h =
    let w = formed d h in
    let short : length (canonical_text d) ≤ 65536 = ltb-false 65536 (length (canonical_text d)) w.short in
    ap₂ (λ a b. a && b) w.canonical (le-leb (length (canonical_text d)) 65536 short)

no_text-by : (offer : Event → Offered) (d : Data) (b : Bool) → is_well_formed d ≡ b → None ≡ text_within longest d → None ≡ (if b then Some (offer d) else None)
no_text-by offer d true is e = let some = ap (λ b. if b then Some (canonical_text d) else None) (has_text d is) in absurd (cc)
no_text-by offer d false is e = refl

-- what has no such text is no event
pub no_text : (offer : Event → Offered) (d : Data) → None ≡ text_within longest d → None ≡ offered_if_formed offer d
no_text offer d e = no_text-by offer d (is_well_formed d) refl e

no_event-by : (d : Data) (cause : NotCanonical) (b : Bool) → canonical_error d ≡ Some cause → is_well_formed d ≡ b → b ≡ false
no_event-by d cause true e is = let none : canonical_error d ≡ None = no-error d (formed d is).canonical in absurd (cc)
no_event-by d cause false e is = refl

-- what has no canonical text is no event
pub no_event : (d : Data) (cause : NotCanonical) → canonical_error d ≡ Some cause → is_well_formed d ≡ false
no_event d cause e = no_event-by d cause (is_well_formed d) e refl

-- the text of a value that has canonical JSON is that
pub canonical_written : (d : Data) (text : List ℕ) → canonical_error d ≡ None → KeysRise d → (has_float d ≡ false → text ≡ compact_text d) → text ≡ canonical_text d
unfolding canonical_text
canonical_written d text none keys written = written (has_float-is_canonical d (sym (is_none-canonical_error d) ∙ ap is_none none)) ∙ sym (canon_same d keys)

-- ---- in a list

filter-by : (d : Data) (ds : List Data) (b w : Bool) → has_text_within longest d ≡ b → is_well_formed d ≡ w → filter is_well_formed (filter (has_text_within longest) ds) ≡ filter is_well_formed ds
    → filter is_well_formed (if b then d ∷ filter (has_text_within longest) ds else filter (has_text_within longest) ds) ≡ (if w then d ∷ filter is_well_formed ds else filter is_well_formed ds)
filter-by d ds true w has is rest = ap (λ b. if b then d ∷ filter is_well_formed (filter (has_text_within longest) ds) else filter is_well_formed (filter (has_text_within longest) ds)) is ∙ ap (λ xs. if w then d ∷ xs else xs) rest
filter-by d ds false true has is rest = let other = has_text d is in absurd (cc)
filter-by d ds false false has is rest = rest

-- no well-formed event is left out
none_left_out : (ds : List Data) → filter is_well_formed (filter (has_text_within longest) ds) ≡ filter is_well_formed ds
none_left_out [] = refl
none_left_out (d ∷ ds) = filter-by d ds (has_text_within longest d) (is_well_formed d) refl refl (none_left_out ds)

module _ (offer : Event → Offered) where
  one : (d : Data) (ds : List Data) (rest : List Offered) (b : Bool) → rest ≡ map offer (filter is_well_formed ds) → cons_option (if b then Some (offer d) else None) rest ≡ map offer (if b then d ∷ filter is_well_formed ds else filter is_well_formed ds)
  one d ds rest true e = ap (λ xs. offer d ∷ xs) e
  one d ds rest false e = e

  -- texts that are JSON for these values, one by one
  offered-values : (texts : List (List ℕ)) (ds : List Data) → map json_of texts ≡ map Some ds → offered_in offer texts ≡ map offer (filter is_well_formed ds)
  offered-values [] [] e = refl
  offered-values [] (d ∷ ds) e = absurd (cc)
  offered-values (t ∷ texts) [] e = absurd (cc)
  offered-values (t ∷ texts) (d ∷ ds) e =
      let here : json_of t ≡ Some d = cc in
      let later : map json_of texts ≡ map Some ds = cc in
      ap (λ o. cons_option (option_and_then (offered_if_formed offer) o) (offered_in offer texts)) here ∙ one d ds (offered_in offer texts) (is_well_formed d) (offered-values texts ds later)

  pub some_events : (texts : List (List ℕ)) (events : List Offered) (o : Option (List Data)) → Some (map json_of texts) ≡ option_map (λ entries. map Some (filter (has_text_within longest) entries)) o → events ≡ offered_in offer texts
      → Some events ≡ option_map (map offer) (option_map (filter is_well_formed) o)
  some_events texts events None e same = absurd (cc)
  some_events texts events (Some entries) e same =
      let back : map json_of texts ≡ map Some (filter (has_text_within longest) entries) = cc in
      ap Some (same ∙ offered-values texts (filter (has_text_within longest) entries) back ∙ ap (map offer) (none_left_out entries))

  pub no_events : {A : Type 0} (f : List Data → A) (o : Option (List Data)) → None ≡ option_map f o → None ≡ option_map (map offer) (option_map (filter is_well_formed) o)
  no_events f None e = refl
  no_events f (Some entries) e = absurd (cc)
