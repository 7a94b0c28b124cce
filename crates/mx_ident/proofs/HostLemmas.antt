-- Where a name is cut: at its first bracket, or at its last colon.
use Rattle.std.proofs.Common.{◌≡◌, ◌≢◌, ℕ, ◌<◌, ◌+◌, ◌-◌, ◌==◌, List, [], ◌∷◌, ◌++◌, length, take, drop, get_or, slice_index, true, false, not, arith, sym, ap, ◌∙◌, lit<, Some, None, Option, MatchOption, Bor, subst}
use Rattle.std.specs.Str.{IsCharBoundary}
use Rattle.std.specs.List.{position_or_len, suffix_len, before_last, after_last}
use Rattle.std.specs.Str.Pattern.{HasCharAt, FindsChar, RFindsChar, MatchBeginsAt, SplitsAroundMatch}
use Rattle.std.proofs.lemmas.Bool.Decides.{nat_tests}
use Rattle.std.proofs.lemmas.List.{take_more}
use Rattle.std.proofs.lemmas.List.Folds.{list_any_at}
use Rattle.std.proofs.lemmas.List.Sums.{position_or_len_is, suffix_len_is}
use Rattle.std.proofs.lemmas.Str.Pattern.{find_char, rfind_char}
use Rattle.mx_ident.specs.Identifier.{begins_with, has_colon, is_bracketed, is_closing, is_colon, is_digits, through_bracket, without_port}
use Rattle.mx_ident.proofs.ColonLemmas.{list_any-none, list_any-some}

-- no byte of the text is c
abbrev pub Lacks : ℕ → List ℕ → Type 0
Lacks c s = (k : ℕ) → k < length s → get_or s k 0 ≢ c

differs : (x c : ℕ) → x ≢ c → (x == c) ≡ false
differs x c h = grind (arith, nat_tests)

same : (x c : ℕ) → x ≡ c → (x == c) ≡ true
same x c h = grind (arith, nat_tests)

position-lacks : (c : ℕ) (s : List ℕ) → Lacks c s → position_or_len (λ b. b == c) s ≡ length s
position-lacks c s h = position_or_len_is (λ b. b == c) s (length s) 0 (omega arith) (λ k l. differs _ c (h k l)) (λ l. absurd (omega arith))

position-first : (c : ℕ) (s : List ℕ) (i : ℕ) → i < length s → get_or s i 0 ≡ c → ((k : ℕ) → k < i → get_or s k 0 ≢ c) → position_or_len (λ b. b == c) s ≡ i
position-first c s i l e h = position_or_len_is (λ b. b == c) s i 0 (omega arith) (λ k m. differs _ c (h k m)) (λ _. same _ c e)

back : (i : ℕ) → i + 1 - 1 ≡ i
back i = omega arith

suffix-last : (c : ℕ) (s : List ℕ) (i : ℕ) → i < length s → get_or s i 0 ≡ c → ((k : ℕ) → i < k → k < length s → get_or s k 0 ≢ c) → suffix_len (λ b. not (b == c)) s ≡ length s - (i + 1)
suffix-last c s i l e h =
    suffix_len_is (λ b. not (b == c)) s (i + 1) 0 (omega arith) (λ k m n. ap not (differs _ c (h k (omega arith) n))) (λ _. ap not (same _ c (ap (λ k. get_or s k 0) (back i) ∙ e)))

-- `find` at the bracket
pub find-bracket : (s : List ℕ) (r : Option ℕ) → begins_with 91 s ≡ true → MatchOption r (FindsChar 93 s None) (MatchBeginsAt (FindsChar 93) s)
    → MatchOption r (is_bracketed s ≡ false) (λ k. (is_bracketed s ≡ true) × (take (k + 1) s ≡ through_bracket s))
find-bracket s None b h =
    simp (b, list_any-none is_closing s (position-lacks 93 s (find_char 93 s None h (lit< tt))))
find-bracket s (Some k) b h =
    let found : (k < length s) × (get_or s k 0 ≡ 93) × ((i : ℕ) → i < k → get_or s i 0 ≢ 93) = find_char 93 s (Some k) h (lit< tt) in
    let first : position_or_len is_closing s ≡ k = position-first 93 s k found.0 found.1 found.2 in
    let some : position_or_len is_closing s < length s = omega arith in (
      simp (b, list_any-some is_closing s some),
      take_more s k 0 found.0 ∙ ap (λ c. take k s ++ c ∷ []) found.1 ∙ ap (λ i. take i s ++ 93 ∷ []) (sym first),
    )

-- `rsplit_once` at the colon
pub rsplit-colon : (s : List ℕ) (r : Option (Bor (List ℕ) × Bor (List ℕ))) → MatchOption r (RFindsChar 58 s None) (λ x. SplitsAroundMatch (RFindsChar 58) s x.0.now x.1.now)
    → MatchOption r (has_colon s ≡ false) (λ x. (has_colon s ≡ true) × (x.0.now ≡ before_last is_colon s) × (x.1.now ≡ after_last is_colon s))
rsplit-colon s None h = list_any-none is_colon s (position-lacks 58 s (rfind_char 58 s None h (lit< tt)))
rsplit-colon s (Some x) h =
    let i = h.0 in
    let j = h.1 in
    let at : HasCharAt 58 s i j = h.2.1 in
    let ends : j ≡ i + 1 = at.ends in
    let byte : slice_index s i ≡ 58 = at.byte (lit< tt) in
    let start : IsCharBoundary s i = (omega arith, λ l high. absurd (omega arith)) in
    let stop : IsCharBoundary s j = let P : ℕ → Type 0 = λ n. IsCharBoundary s n in subst P (sym ends) at.after in
    let found : (i < length s) × (get_or s i 0 ≡ 58) × ((k : ℕ) → i < k → k < length s → get_or s k 0 ≢ 58) =
    rfind_char 58 s (Some i) (j, h.2, h.5, start, stop) (lit< tt) in
    let len : suffix_len (λ b. not (b == 58)) s ≡ length s - (i + 1) = suffix-last 58 s i found.0 found.1 found.2 in
    let some : has_colon s ≡ true = list_any_at is_colon s i 0 found.0 (same _ 58 found.1) in
    let until : length s - suffix_len (λ b. not (b == 58)) s - 1 ≡ i = omega arith in
    let from : length s - suffix_len (λ b. not (b == 58)) s ≡ j = omega arith in
    (some, h.3 ∙ ap (λ n. take n s) (sym until), h.4 ∙ ap (λ n. drop n s) (sym from))

pub without_port-no_colon : (s : List ℕ) → has_colon s ≡ false → without_port s ≡ s
without_port-no_colon s none = simp none

pub without_port-port : (s port : List ℕ) → has_colon s ≡ true → port ≡ after_last is_colon s → is_digits 1 5 port ≡ true
    → without_port s ≡ before_last is_colon s
without_port-port s port some e d = simp (some, ap (is_digits 1 5) (sym e) ∙ d)

pub without_port-no_port : (s port : List ℕ) → has_colon s ≡ true → port ≡ after_last is_colon s → is_digits 1 5 port ≡ false
    → without_port s ≡ s
without_port-no_port s port some e d = simp (some, ap (is_digits 1 5) (sym e) ∙ d)
