-- The content of an event, as a line tells it (docs/AUDIT.md).
use Rattle.std.specs.Prelude.{ℕ, zero, suc, nat_le, nat_lt, Bool, ◌&&◌, ◌||◌, if◌then◌else◌, List, [], ◌∷◌, codes, length, take, slice_index_or, Option, None, Some}
use Rattle.serde_json.specs.Data.{Data, string}
use Rattle.mx_canon.specs.Canonical.{canonical_text}

-- how many bytes of the text of a content a line has, where the event is no state event
abbrev pub most_bytes : ℕ
most_bytes = 1024

-- a byte of UTF-8 at which no character begins
abbrev pub is_inside : ℕ → Bool
is_inside b = nat_le 128 b && nat_lt b 192

-- the last place up to this one at which a character begins
abbrev pub cut_place : List ℕ → ℕ → ℕ
cut_place text zero = zero
cut_place text (suc p) = if is_inside (slice_index_or text (suc p) 0) then cut_place text p else suc p

-- the beginning of a text that is longer than a line has of it
unfoldable pub cut_text : List ℕ → List ℕ
cut_text text = take (cut_place text most_bytes) text

abbrev pub is_whole : Bool → List ℕ → Bool
is_whole is_state text = is_state || nat_le (length text) most_bytes

-- the content whole, or the beginning of its text
abbrev pub content_members : Bool → Data → List (List ℕ × Option Data)
content_members is_state d =
    let whole = is_whole is_state (canonical_text d) in
    (codes "content", if whole then Some d else None)
    ∷ (codes "content_cut", if whole then None else Some (string (cut_text (canonical_text d)))) ∷ []

abbrev pub hash_text : Bool → List ℕ
hash_text holds = if holds then codes "good" else codes "bad"
