-- What texts are events.
use Rattle.std.proofs.Common.{ap, ◌≡◌, ℕ, Bool, true, false, List, Option, Some, None, IsUtf8, IsTrue, is_none, option_and_then, refl, sym, ◌∙◌, inl, inr, bytes_eq}
use Rattle.std.specs.Prelude.{if◌then◌else◌, ◌&&◌}
use Rattle.std.specs.Str.{is_utf8}
use Rattle.std.proofs.lemmas.Bool.{cases_Bool}
use Rattle.std.proofs.lemmas.Str.{is_utf8-from_IsUtf8, IsUtf8-from_is_utf8}
use Rattle.std.proofs.lemmas.Slice.Eq.{bytes_eq-Decides}
use Rattle.serde_json.specs.Data.{Data}
use Rattle.serde_json.specs.Read.{read}
use Rattle.mx_canon.specs.Canonical.{canonical_error, canonical_text}
use Rattle.mx_canon.specs.Reading.{IsJsonFor}
use Rattle.mx_canon.specs.declared.checking.NotCanonical.{NotCanonical}
use Rattle.mx_pdu.specs.EventTexts.{event_if, event_of_text}
use Rattle.mx_pdu.specs.Format.{is_well_formed, format_error}
use Rattle.mx_pdu.specs.declared.refusals.NotAnEvent.{NotAnEvent}

module _ (t : List ℕ) where
  known_text : IsUtf8 t → event_of_text t ≡ option_and_then (event_if t) (read t)
  unfolding event_of_text
  known_text utf8 = rw (is_utf8-from_IsUtf8 t utf8) refl

  -- a text of no event
  pub no_event : ((d : Data) → IsUtf8 t → read t ≡ Some d → event_if t d ≡ None) → event_of_text t ≡ None
  unfolding event_of_text
  no_event none = elim (cases_Bool (is_utf8 t)) [ inl valid ↦ rw valid (go (IsUtf8-from_is_utf8 t valid) (read t) refl) | inr other ↦ rw other refl ]
    where
      go : IsUtf8 t → (o : Option Data) → read t ≡ o → option_and_then (event_if t) o ≡ None
      go utf8 None is = refl
      go utf8 (Some d) is = none d utf8 is

  pub no_json : ((d : Data) → ¬ IsJsonFor d t) → event_of_text t ≡ None
  no_json none = no_event (λ d utf8 is. absurd (none d (utf8, is)))

  module _ (d : Data) (json : IsJsonFor d t) where
    only : (e : Data) → read t ≡ Some e → d ≡ e
    only e is = let both = sym json.1 ∙ is in cc

    pub no_canonical : (cause : NotCanonical) → canonical_error d ≡ Some cause → event_of_text t ≡ None
    no_canonical cause is = no_event (λ e utf8 reads. rw (← only e reads) (rw is refl))

    pub no_same_text : bytes_eq (canonical_text d) t ≡ false → event_of_text t ≡ None
    no_same_text other = no_event (λ e utf8 reads. rw (← only e reads) (go (is_none (canonical_error d)) (is_well_formed d)))
      where
        go : (a b : Bool) → (if (a && (b && bytes_eq (canonical_text d) t)) then Some d else None) ≡ None
        go true true = rw other refl
        go true false = refl
        go false b = refl

    pub no_form : (cause : NotAnEvent) → format_error d ≡ Some cause → event_of_text t ≡ None
    unfolding is_well_formed
    no_form cause is = no_event (λ e utf8 reads. rw (← only e reads) (go (is_none (canonical_error d))))
      where
        go : (a : Bool) → (if (a && (is_none (format_error d) && bytes_eq (canonical_text d) t)) then Some d else None) ≡ None
        go true = rw is refl
        go false = refl

    pub reads_event : canonical_error d ≡ None → IsTrue (is_well_formed d) → canonical_text d ≡ t → event_of_text t ≡ Some d
    reads_event canonical formed same =
        let equal = (bytes_eq-Decides (canonical_text d) t).1 same in
        known_text json.0 ∙ rw (json.1, canonical, formed, equal) refl

-- an event's text is JSON for it
pub event-read : (t : List ℕ) (d : Data) → event_of_text t ≡ Some d → ((if is_utf8 t then read t else None) ≡ Some d) × (is_well_formed d ≡ true)
unfolding event_of_text
event-read t d is = whole (is_utf8 t) (read t) is
  where
    known : (e : Data) (a b c : Bool) → a ≡ is_well_formed e → (if (c && (a && b)) then Some e else None) ≡ Some d → (e ≡ d) × (is_well_formed d ≡ true)
    known e true true true formed same = let equal : e ≡ d = cc in (equal, ap is_well_formed (sym equal) ∙ sym formed)
    known e true false true formed same = absurd (cc)
    known e false b true formed same = absurd (cc)
    known e a b false formed same = absurd (cc)

    whole : (b : Bool) (o : Option Data) → (if b then option_and_then (event_if t) o else None) ≡ Some d → ((if b then o else None) ≡ Some d) × (is_well_formed d ≡ true)
    whole true (Some e) same =
        let it = known e (is_well_formed e) (bytes_eq (canonical_text e) t) (is_none (canonical_error e)) refl same in (ap (λ x. Some x) it.0, it.1)
    whole true None same = absurd (cc)
    whole false o same = absurd (cc)
