-- Where the members of an object stand in its canonical text.
use Rattle.std.specs.Prelude.{◌≡◌, ℕ, ◌+◌, List, [], ◌∷◌, codes, length, Option, Some, option_map, unwrap_or}
use Rattle.std.specs.List.Sorted.{IsStrictlySortedBy}
use Rattle.serde_json.specs.Data.{Data, object, Members, no_members, member}
use Rattle.mx_canon.specs.Canonical.{canonical_text, member_text, string_text}
use Rattle.mx_canon.specs.KeyOrder.{keys, text_cmp}
use Rattle.mx_redact.specs.EventKeys.{key_of}
use Rattle.mx_redact.specs.Fields.{field, kind}
use Rattle.mx_redact.specs.Redaction.{redacted_content}
use Rattle.mx_redact.specs.declared.places.MemberPlace.{MemberPlace}

-- of a member whose piece begins at this byte: its value begins behind the key and a colon
abbrev pub place_of : ℕ → List ℕ → Data → MemberPlace
place_of at k d = record {
  key = key_of k;
  start = at;
  value = at + (length (string_text k) + 1);
  end = at + length (member_text (k, canonical_text d));
}

-- of members one after another, the first from this byte on, with one byte between two
abbrev pub places_from : ℕ → Members → List MemberPlace
places_from at no_members = []
places_from at (member k d ms) =
    place_of at k d ∷ places_from (at + length (member_text (k, canonical_text d)) + 1) ms

-- a text is the canonical one of an object, whose members are in the order of their keys, and stand at these places
pub record ArePlaces (text : List ℕ) (places : List MemberPlace) (ms : Members) : Type 0 where
  pub rise : IsStrictlySortedBy text_cmp (keys ms)
  pub text_is : text ≡ canonical_text (object ms)
  pub places_are : places ≡ places_from 1 ms

-- what redaction keeps of a content by these members of it, in an event of a type; where there are none, it stays
abbrev pub redacted_by : List ℕ → Option Members → Data → Data
redacted_by type known d = unwrap_or (option_map (λ ms. redacted_content type (object ms)) known) d

-- the text and the places of an event's members, its type, and the members known of its content: each that is kept
pub record IsPlacedEvent (text : List ℕ) (places : List MemberPlace) (type : List ℕ) (known : Option Members)
    (ms : Members) : Type 0 where
  pub members : ArePlaces text places ms
  pub kind_is : type ≡ kind (object ms)
  pub content : (d : Data) → field (codes "content") (object ms) ≡ Some d
      → redacted_content type d ≡ redacted_by type known d
