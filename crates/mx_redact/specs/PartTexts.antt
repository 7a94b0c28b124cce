-- For proofs and private clauses alone.
-- The text of a part of an event, as it is put together from the texts of the event's members.
use Rattle.std.specs.Prelude.{◌≡◌, ℕ, ◌-◌, ◌≤◌, Bool, true, false, List, ◌∷◌, ◌++◌, codes, drop, length, map, flat_map, if◌then◌else◌, Option, Some, None, ⊤}
use Rattle.std.specs.List.{join_with_byte}
use Rattle.serde_json.specs.Data.{Data, object, Members, no_members, member}
use Rattle.mx_canon.specs.Canonical.{canonical_text, member_text, sorted_members}
use Rattle.mx_canon.specs.Sinks.{HoldsText}
use Rattle.mx_redact.specs.Places.{place_of}
use Rattle.mx_redact.specs.Redaction.{members_where}
use Rattle.mx_redact.specs.Selected.{is_kept_content, kept_part, selected}
use Rattle.mx_redact.specs.declared.event_keys.EventKey.{EventKey}
use Rattle.mx_redact.specs.declared.event_keys.EventKey.TheVariants.{Content as ContentKey, Hashes, Redacts, Signatures, Unsigned, Other}
use Rattle.mx_redact.specs.declared.kinds.KeptContent.{KeptContent}
use Rattle.mx_redact.specs.declared.part_texts.Part.{Part}
use Rattle.mx_redact.specs.declared.part_texts.Part.TheVariants.{Hashed as HashedPart, Signed as SignedPart}
use Rattle.mx_redact.specs.declared.part_texts.PartText.{PartText}
use Rattle.mx_redact.specs.declared.places.MemberPlace.{MemberPlace}
use Rattle.mx_redact.specs.declared.selections.Selection.{Selection}
use Rattle.mx_redact.specs.declared.selections.Selection.TheVariants.{Hashed, Signed}

abbrev pub selection_of : Part → Selection
selection_of HashedPart = Hashed
selection_of (SignedPart kept) = Signed kept

abbrev pub is_hashed_key : EventKey → Bool
is_hashed_key Unsigned = false
is_hashed_key Signatures = false
is_hashed_key Hashes = false
is_hashed_key _ = true

abbrev pub is_signed_key : EventKey → Bool
is_signed_key Redacts = false
is_signed_key Signatures = false
is_signed_key Unsigned = false
is_signed_key Other = false
is_signed_key _ = true

-- a key of an event is in a part
abbrev pub is_key_in : Part → EventKey → Bool
is_key_in HashedPart key = is_hashed_key key
is_key_in (SignedPart kept) key = is_signed_key key

abbrev pub kept_at : KeptContent → EventKey → Option KeptContent
kept_at kept ContentKey = Some kept
kept_at kept _ = None

-- what redaction keeps of the value at a key, where it keeps a part of it alone
abbrev pub inner_at : Part → EventKey → Option KeptContent
inner_at HashedPart key = None
inner_at (SignedPart kept) key = kept_at kept key

-- what is left of a content by the members known of it; where there are none, all of it
abbrev pub part_known : KeptContent → Option Members → Data → Data
part_known kept None d = d
part_known kept (Some ms) d = object (members_where (is_kept_content kept) ms)

-- the members known of a content say what is left of it in a part
abbrev pub IsKnown : Part → Option Members → List ℕ → Data → Type 0
IsKnown HashedPart known k d = ⊤
IsKnown (SignedPart kept) known k d = k ≡ codes "content" → kept_part kept d ≡ part_known kept known d

abbrev pub AllKnown : Part → Option Members → Members → Type 0
AllKnown part known no_members = ⊤
AllKnown part known (member k d ms) = IsKnown part known k d × AllKnown part known ms

-- a place within a text, behind a byte
abbrev pub IsWithin : List ℕ → MemberPlace → Type 0
IsWithin text place =
    (1 ≤ place.start) × (place.start ≤ place.value) × (place.value ≤ place.end) × (place.end ≤ length text)

-- a member stands in a text at a place
pub record StandsAt (text : List ℕ) (place : MemberPlace) (k : List ℕ) (d : Data) (after : List ℕ) : Type 0 where
  pub place_is : place ≡ place_of place.start k d
  pub here : drop place.start text ≡ member_text (k, canonical_text d) ++ after

-- behind a comma
abbrev pub IsBehindComma : List ℕ → MemberPlace → Type 0
IsBehindComma text place = drop (place.start - 1) text ≡ 44 ∷ drop place.start text

-- what is left to put: a comma stands before each piece where one was put before
abbrev pub pieces_left : Bool → List (List ℕ) → List ℕ
pieces_left later pieces = if later then flat_map (λ piece. 44 ∷ piece) pieces else join_with_byte 44 pieces

-- the text of the part of all members, but for the rest of them and the closing bracket
abbrev pub HoldsAllBut : PartText → Members → Members → Type 0
HoldsAllBut text rest all =
    (out : List ℕ) × HoldsText text.buffer out
    × (out ++ pieces_left text.later (map member_text (sorted_members (selected (selection_of text.part) rest)))
    ≡ 123 ∷ join_with_byte 44 (map member_text (sorted_members (selected (selection_of text.part) all))))
