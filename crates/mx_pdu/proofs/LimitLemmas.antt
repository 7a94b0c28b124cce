-- The bounds of a well-formed event's lists and numbers.
use Rattle.std.proofs.Common.{◌≡◌, ℕ, suc, ◌≤◌, List, [], ◌∷◌, length, true, refl, arith, lit<, Option, Some, None, IsTrue, option_and_then}
use Rattle.std.specs.Prelude.{codes, nat_le, pos, unwrap_or, filter_map}
use Rattle.std.specs.List.{cons_option}
use Rattle.std.proofs.lemmas.Bool.Decides.{nat_tests}
use Rattle.serde_json.specs.Data.{Num, unsigned, negative, float, Data, null, boolean, number, string, array, object, no_items}
use Rattle.serde_json.specs.Find.{as_str, as_array, as_number, as_u64, as_integer}
use Rattle.mx_canon.specs.Canonical.{is_canonical, is_exact, in_range, largest}
use Rattle.mx_redact.specs.Fields.{field, item_list, is_none_or}
use Rattle.mx_pdu.specs.Event.{prev_ids, auth_ids, depth_of, timestamp_of}
use Rattle.mx_pdu.specs.Format.{is_well_formed, is_short_list}
use Rattle.mx_pdu.proofs.FormatLemmas.{formed, get-canonical, limit-at, and-left}

-- ---- lists

one-more : (o : Option (List ℕ)) (xs : List (List ℕ)) (n : ℕ) → length xs ≤ n → length (cons_option o xs) ≤ suc n
one-more None xs n h = omega arith
one-more (Some s) xs n h = omega arith

no_longer : (ds : List Data) → length (filter_map as_str ds) ≤ length ds
no_longer [] = omega arith
no_longer (d ∷ ds) = one-more (as_str d) (filter_map as_str ds) (length ds) (no_longer ds)

low : (m n : ℕ) → nat_le m n ≡ true → m ≤ n
low m n h = grind (arith, nat_tests)

few : (n : ℕ) (o : Option Data) → is_none_or (is_short_list n) o ≡ true
    → length (filter_map as_str (item_list (unwrap_or (option_and_then as_array o) no_items))) ≤ n
few n None h = omega arith
few n (Some null) h = omega arith
few n (Some (boolean b)) h = omega arith
few n (Some (number m)) h = omega arith
few n (Some (string s)) h = omega arith
few n (Some (array ds)) h = omega (arith, no_longer (item_list ds), low (length (item_list ds)) n (and-left _ _ h))
few n (Some (object ms)) h = omega arith

pub few-auth : (d : Data) → IsTrue (is_well_formed d) → length (auth_ids d) ≤ 10
few-auth d h = few 10 (field (codes "auth_events") d) (limit-at d 0 h (lit< tt))

pub few-prev : (d : Data) → IsTrue (is_well_formed d) → length (prev_ids d) ≤ 20
few-prev d h = few 20 (field (codes "prev_events") d) (limit-at d 2 h (lit< tt))

-- ---- numbers

natural-exact : (n : Num) → is_exact n ≡ true → unwrap_or (as_u64 n) 0 ≤ largest
natural-exact (unsigned n) h = low n largest h
natural-exact (negative z) h = omega arith
natural-exact (float x) h = omega arith

natural : (o : Option Data) → is_none_or is_canonical o ≡ true → unwrap_or (option_and_then as_u64 (option_and_then as_number o)) 0 ≤ largest
natural None h = omega arith
natural (Some null) h = omega arith
natural (Some (boolean b)) h = omega arith
natural (Some (number n)) h = natural-exact n (and-left _ _ h)
natural (Some (string s)) h = omega arith
natural (Some (array ds)) h = omega arith
natural (Some (object ms)) h = omega arith

integer-exact : (n : Num) → is_exact n ≡ true → in_range (unwrap_or (as_integer n) (pos 0)) ≡ true
integer-exact (unsigned n) h = h
integer-exact (negative z) h = h
integer-exact (float x) h = refl

integer : (o : Option Data) → is_none_or is_canonical o ≡ true → in_range (unwrap_or (option_and_then as_integer (option_and_then as_number o)) (pos 0)) ≡ true
integer None h = refl
integer (Some null) h = refl
integer (Some (boolean b)) h = refl
integer (Some (number n)) h = integer-exact n (and-left _ _ h)
integer (Some (string s)) h = refl
integer (Some (array ds)) h = refl
integer (Some (object ms)) h = refl

pub depth-fits : (d : Data) → IsTrue (is_well_formed d) → depth_of d ≤ largest
depth-fits d h = natural (field (codes "depth") d) (get-canonical (codes "depth") d (formed d h).canonical)

pub timestamp-fits : (d : Data) → IsTrue (is_well_formed d) → in_range (timestamp_of d) ≡ true
timestamp-fits d h = integer (field (codes "origin_server_ts") d) (get-canonical (codes "origin_server_ts") d (formed d h).canonical)
