-- A list of numbers with a fault has a number that is not exact.
use Rattle.std.proofs.Common.{◌≡◌, List, [], ◌∷◌, ◌++◌, Bool, true, false, ◌||◌, ◌&&◌, arith, refl, sym, ap, ap₂, ◌∙◌}
use Rattle.std.specs.Prelude.{Option, Some, None, if◌then◌else◌}
use Rattle.std.proofs.lemmas.List.Folds.{list_any-append, list_all-append}
use Rattle.std.specs.List.{list_any, list_all}
use Rattle.serde_json.specs.Data.{Num, unsigned, negative, float, Data, null, boolean, number, string, array, object, Items, no_items, item, Members, no_members, member}
use Rattle.serde_json.specs.Written.{has_float, items_have_float, members_have_float}
use Rattle.serde_json.specs.Find.{is_float}
use Rattle.mx_canon.specs.Canonical.{is_exact, numbers, item_numbers, member_numbers, is_canonical}
use Rattle.mx_canon.specs.Faults.{fault_of, graver}
use Rattle.mx_canon.specs.declared.checking.NotCanonical.{NotCanonical}
use Rattle.mx_canon.specs.declared.checking.NotCanonical.TheVariants.{Float, Range}

-- a float is not exact
pub list_all-is_exact : (ns : List Num) → list_any is_float ns ≡ true → list_all is_exact ns ≡ false
list_all-is_exact [] h = cc
list_all-is_exact (unsigned n ∷ ns) h = grind (arith, list_all-is_exact ns h)
list_all-is_exact (negative z ∷ ns) h = grind (arith, list_all-is_exact ns h)
list_all-is_exact (float x ∷ ns) h = refl

mutual
  has_float_same : (d : Data) → has_float d ≡ list_any is_float (numbers d)
  has_float_same null = refl
  has_float_same (boolean b) = refl
  has_float_same (number (unsigned n)) = refl
  has_float_same (number (negative z)) = refl
  has_float_same (number (float x)) = refl
  has_float_same (string s) = refl
  has_float_same (array ds) = items_have_float_same ds
  has_float_same (object ms) = members_have_float_same ms

  items_have_float_same : (ds : Items) → items_have_float ds ≡ list_any is_float (item_numbers ds)
  items_have_float_same no_items = refl
  items_have_float_same (item d ds) =
      ap₂ (λ p q. p || q) (has_float_same d) (items_have_float_same ds) ∙ sym (list_any-append is_float (numbers d) (item_numbers ds))

  members_have_float_same : (ms : Members) → members_have_float ms ≡ list_any is_float (member_numbers ms)
  members_have_float_same no_members = refl
  members_have_float_same (member k d ms) =
      ap₂ (λ p q. p || q) (has_float_same d) (members_have_float_same ms) ∙ sym (list_any-append is_float (numbers d) (member_numbers ms))

no_float : (ns : List Num) (b : Bool) → list_any is_float ns ≡ b → list_all is_exact ns ≡ true → b ≡ false
no_float ns true any all = let none = list_all-is_exact ns any in cc
no_float ns false any all = refl

-- a canonical value has no float, in serde_json's words
pub has_float-is_canonical : (d : Data) → is_canonical d ≡ true → has_float d ≡ false
has_float-is_canonical d h = has_float_same d ∙ no_float (numbers d) _ refl h

-- ---- the gravest of several faults

graver-assoc : (a b c : Option NotCanonical) → graver (graver a b) c ≡ graver a (graver b c)
graver-assoc (Some Float) b c = refl
graver-assoc (Some Range) (Some Float) c = refl
graver-assoc (Some Range) (Some Range) (Some Float) = refl
graver-assoc (Some Range) (Some Range) (Some Range) = refl
graver-assoc (Some Range) (Some Range) None = refl
graver-assoc (Some Range) None c = refl
graver-assoc None b c = refl

fault_at : Bool → Bool → Option NotCanonical
fault_at any all = if any then Some Float else (if all then None else Some Range)

-- the fault of two lists, from their tests
graver_at : (any all any' all' : Bool) → (any ≡ true → all ≡ false) → (any' ≡ true → all' ≡ false) → graver (fault_at any all) (fault_at any' all') ≡ fault_at (any || any') (all && all')
unfolding fault_at
graver_at true all any' all' h h' = refl
graver_at false true true all' h h' = refl
graver_at false true false all' h h' = refl
graver_at false false true all' h h' = refl
graver_at false false false true h h' = refl
graver_at false false false false h h' = refl

fault_of-append : (xs ys : List Num) → fault_of (xs ++ ys) ≡ graver (fault_of xs) (fault_of ys)
unfolding fault_at
fault_of-append xs ys =
    ap₂ fault_at (list_any-append is_float xs ys) (list_all-append is_exact xs ys)
    ∙ sym (graver_at (list_any is_float xs) (list_all is_exact xs) (list_any is_float ys) (list_all is_exact ys) (list_all-is_exact xs) (list_all-is_exact ys))

-- what was found before two lists, and what is found in them
pub graver-fault_of : (found : Option NotCanonical) (xs ys : List Num) → graver (graver found (fault_of xs)) (fault_of ys) ≡ graver found (fault_of (xs ++ ys))
graver-fault_of found xs ys = graver-assoc found (fault_of xs) (fault_of ys) ∙ ap (graver found) (sym (fault_of-append xs ys))
