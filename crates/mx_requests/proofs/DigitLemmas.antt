-- The number that decimal digits spell, as std's `parse` reads it.
use Rattle.std.proofs.Common.{◌≡◌, ℕ, ◌<◌, ◌≤◌, ◌^◌, ◌*◌, ◌+◌, ◌-◌, List, length, true, fold, min, arith, rules, Ok, Err, Result, sym}
use Rattle.std.specs.Char.{is_ascii_digit}
use Rattle.std.specs.List.{list_all}
use Rattle.std.specs.Result.{OkIff}
use Rattle.std.specs.Str.Parse.{ParsesUnsigned}
use Rattle.std.proofs.lemmas.Bool.Decides.{nat_tests}
use Rattle.std.proofs.lemmas.Str.Parse.{IsNumeralModel, IsDigitsTest, FoldsDigits, numerals_by_fold, parse_digits}
use Rattle.std.proofs.Math.Nat.{min-eq_right}
use Rattle.mx_ident.specs.Identifier.{decimal_value}
use Rattle.mx_requests.specs.Requests.{is_number}

digits_test : IsDigitsTest (λ s. list_all is_ascii_digit s ≡ true)
digits_test = search rules

digits_fold : FoldsDigits (λ n s. fold (λ m c. m * 10 + (c - 48)) n s)
digits_fold = search rules

numerals : IsNumeralModel (λ s. list_all is_ascii_digit s ≡ true) decimal_value
numerals = numerals_by_fold _ digits_test _ digits_fold

only_digits : (s : List ℕ) → is_number s ≡ true → (0 < length s) × (list_all is_ascii_digit s ≡ true)
only_digits s d = grind (arith, nat_tests)

parses : {E : Type 0} (s : List ℕ) (r : Result ℕ E) → ParsesUnsigned 64 10 s r → is_number s ≡ true → OkIff r ((0 < length s) × (decimal_value s < 2 ^ 64)) (decimal_value s)
parses s r h d = parse_digits numerals 64 s r h (only_digits s d).1

fits : {E : Type 0} (k n : ℕ) (r : Result ℕ E) → OkIff r ((0 < k) × (n < 2 ^ 64)) n → 0 < k → (x : ℕ) → r ≡ Ok x → x ≡ n
fits k n (Ok y) h some x is = grind (arith, nat_tests)
fits k n (Err e) h some x is = absurd (cc is)

over : {E : Type 0} (k n : ℕ) (r : Result ℕ E) → OkIff r ((0 < k) × (n < 2 ^ 64)) n → 0 < k → (e : E) → r ≡ Err e → 2 ^ 64 ≤ n
over k n (Ok y) h some e is = absurd (cc is)
over k n (Err f) h some e is = grind (arith, nat_tests)

pub read_number : {E : Type 0} (s : List ℕ) (r : Result ℕ E) → ParsesUnsigned 64 10 s r → is_number s ≡ true → (x : ℕ) → r ≡ Ok x → x ≡ decimal_value s
read_number s r h d x is = fits (length s) (decimal_value s) r (parses s r h d) (only_digits s d).0 x is

pub over_many : {E : Type 0} (s : List ℕ) (r : Result ℕ E) → ParsesUnsigned 64 10 s r → is_number s ≡ true → (e : E) → r ≡ Err e → 100 ≡ min (decimal_value s) 100
over_many s r h d e is =
    let l = over (length s) (decimal_value s) r (parses s r h d) (only_digits s d).0 e is in
    let more : 100 ≤ decimal_value s = grind (arith, nat_tests) in
    sym (min-eq_right more)
