-- A value as text is read. Only the crate's private clauses cite it.
use Rattle.std.specs.Prelude.{◌≡◌, ⊤, IsUtf8, true, pos, int_lt}
use Rattle.std.specs.Float.{float_is_finite}
use Rattle.std.specs.Cmp.Lexicographic.{slice_cmp}
use Rattle.std.specs.Ordering.{nat_cmp}
use Rattle.std.specs.List.Sorted.{IsStrictlySortedBy}
use Rattle.serde_json.specs.Data.{Num, unsigned, negative, float, Data, null, boolean, number, string, array, object, Items, no_items, item, Members, no_members, member}
use Rattle.mx_canon.specs.KeyOrder.{keys}

-- a negative number is below zero, and a float is finite
abbrev pub IsInRange : Num → Type 0
IsInRange (unsigned n) = ⊤
IsInRange (negative z) = int_lt z (pos 0) ≡ true
IsInRange (float x) = float_is_finite x ≡ true

-- strings and keys are text, and the keys of each object rise
abbrev mutual
  pub IsReadable : Data → Type 0
  IsReadable null = ⊤
  IsReadable (boolean b) = ⊤
  IsReadable (number n) = IsInRange n
  IsReadable (string s) = IsUtf8 s
  IsReadable (array ds) = AreReadable ds
  IsReadable (object ms) = IsStrictlySortedBy (slice_cmp nat_cmp) (keys ms) × HasReadable ms

  pub AreReadable : Items → Type 0
  AreReadable no_items = ⊤
  AreReadable (item d ds) = IsReadable d × AreReadable ds

  pub HasReadable : Members → Type 0
  HasReadable no_members = ⊤
  HasReadable (member k d ms) = IsUtf8 k × IsReadable d × HasReadable ms
