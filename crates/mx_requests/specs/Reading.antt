-- What a reader of a header has read.
use Rattle.std.specs.Prelude.{ℕ, ◌==◌, ◌||◌, Bool, true, false, map, string_bytes}
use Rattle.mx_requests.specs.Authorization.{PartView, Reading, backslash, quote}
use Rattle.mx_requests.specs.declared.authorization.HeaderState.{HeaderState}
use Rattle.mx_requests.specs.declared.authorization.HeaderState.TheVariants.{InQuotes}
use Rattle.mx_requests.specs.declared.authorization.Part.{Part}
use Rattle.mx_requests.specs.declared.authorization.Reader.{Reader}

abbrev pub part_shown : Part → PartView
part_shown part = record { name = string_bytes part.name; value = string_bytes part.value }

abbrev pub reading_of : Reader → Reading
reading_of r = record {
  parts = map part_shown r.parts.items;
  place = r.place;
  name = string_bytes r.name;
  value = string_bytes r.value;
}

abbrev pub is_in_quotes : HeaderState → Bool
is_in_quotes InQuotes = true
is_in_quotes _ = false

-- what ends a quoted value, or stands before an escaped character
abbrev pub is_mark : ℕ → Bool
is_mark c = c == quote || c == backslash
