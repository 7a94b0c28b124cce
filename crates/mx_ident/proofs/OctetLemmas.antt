-- The number that decimal digits spell, as std's `parse` reads it.
use Rattle.std.proofs.Common.{◌≡◌, ℕ, ◌<◌, ◌+◌, ◌-◌, ◌*◌, ◌^◌, List, length, true, nat_le, fold, arith, rules, Ok, Err, Result, is_ok, ◌∙◌, sym}
use Rattle.std.specs.Char.{is_ascii_digit}
use Rattle.std.specs.List.{list_all}
use Rattle.std.specs.Result.{OkIff}
use Rattle.std.specs.Str.Parse.{ParsesUnsigned}
use Rattle.std.proofs.lemmas.Bool.Decides.{nat_tests}
use Rattle.std.proofs.lemmas.Str.Parse.{IsNumeralModel, IsDigitsTest, FoldsDigits, numerals_by_fold, parse_digits}
use Rattle.mx_ident.specs.Identifier.{decimal_value, is_digits, is_octet}

digits_test : IsDigitsTest (λ s. list_all is_ascii_digit s ≡ true)
digits_test = search rules

digits_fold : FoldsDigits (λ n s. fold (λ m c. m * 10 + (c - 48)) n s)
digits_fold = search rules

numerals : IsNumeralModel (λ s. list_all is_ascii_digit s ≡ true) decimal_value
numerals = numerals_by_fold _ digits_test _ digits_fold

fits_byte : {E : Type 0} (k n : ℕ) (r : Result ℕ E) → OkIff r ((0 < k) × (n < 2 ^ 8)) n → 0 < k → is_ok r ≡ nat_le n 255
fits_byte k n (Ok x) h some = grind (arith, nat_tests)
fits_byte k n (Err e) h some = grind (arith, nat_tests)

only_digits : (s : List ℕ) → is_digits 1 3 s ≡ true → (0 < length s) × (list_all is_ascii_digit s ≡ true)
only_digits s d = grind (arith, nat_tests)

is_octet-value : (s : List ℕ) → is_digits 1 3 s ≡ true → is_octet s ≡ nat_le (decimal_value s) 255
is_octet-value s d = simp d

pub is_octet-parse : {E : Type 0} (s : List ℕ) (r : Result ℕ E) → ParsesUnsigned 8 10 s r → is_digits 1 3 s ≡ true → is_ok r ≡ is_octet s
is_octet-parse s r h d =
    fits_byte (length s) (decimal_value s) r (parse_digits numerals 8 s r h (only_digits s d).1) (only_digits s d).0 ∙ sym (is_octet-value s d)
