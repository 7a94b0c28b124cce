-- Lines, taken one after another from what an input has left.
use Rattle.std.proofs.Common.{◌≡◌, ◌<◌, ℕ, suc, List, [], ◌∷◌, ◌++◌, Option, Some, None, IfSome, length, Bool, true, false, refl, sym, ◌∙◌, ap, subst, arith, append_assoc, append-nil}
use Rattle.std.specs.Prelude.{◌==◌}
use Rattle.std.specs.List.{onto_first}
use Rattle.std.specs.Io.KnownBytes.{Consumes, IsAtEnd, prepend_known}
use Rattle.std.proofs.lemmas.Bool.{eqb-true, ne_eqb, true≢false}
use Rattle.std.proofs.lemmas.List.{nil_from_length}
use Rattle.mx_log.specs.Lines.{lines_of}
use Rattle.mx_log.specs.LineReading.{AreTaken, IsOneLine}

-- ---- a line and what comes behind it

lines-ended : (line rest : List ℕ) → IsOneLine line → lines_of (line ++ 10 ∷ rest) ≡ line ∷ lines_of rest
unfolding lines_of
lines-ended [] rest one = refl
lines-ended (c ∷ line) rest one =
    let more : lines_of (line ++ 10 ∷ rest) ≡ line ∷ lines_of rest = lines-ended line rest (λ k d less. one (suc k) d (omega arith)) in
    rw (ne_eqb c 10 (one 0 0 (omega arith))) (ap (onto_first c) more)

lines-last : (line : List ℕ) → IsOneLine line → 0 < length line → lines_of line ≡ line ∷ []
unfolding lines_of
lines-last [] one some = absurd (omega (arith, some))
lines-last (c ∷ []) one some = rw (ne_eqb c 10 (one 0 0 (omega arith))) refl
lines-last (c ∷ d ∷ line) one some =
    let more : lines_of (d ∷ line) ≡ (d ∷ line) ∷ [] = lines-last (d ∷ line) (λ k e less. one (suc k) e (omega arith)) (omega arith) in
    rw (ne_eqb c 10 (one 0 0 (omega arith))) (ap (onto_first c) more)

lines-none : lines_of [] ≡ []
unfolding lines_of
lines-none = refl

-- ---- what was taken

pub taken_none : (a : Option (List ℕ)) (held : List ℕ) → held ≡ [] → AreTaken a (prepend_known held a) []
taken_none None held none = tt
taken_none (Some all) held none = ap lines_of (ap (λ l. l ++ all) (sym none))

-- a line that a newline ends
pub ended_taken : (a b : Option (List ℕ)) (line : List ℕ) → IsOneLine line → Consumes a b (line ++ 10 ∷ []) → AreTaken a b (line ∷ [])
ended_taken None b line one next = tt
ended_taken (Some all) None line one next = absurd next
ended_taken (Some all) (Some rest) line one next = ap lines_of (next ∙ append_assoc line (10 ∷ []) rest) ∙ lines-ended line rest one

-- the last line, which lacks its newline
pub last_taken : (a b : Option (List ℕ)) (line : List ℕ) → IsOneLine line → Consumes a b line → IsAtEnd b → 0 < length line → AreTaken a b (line ∷ [])
last_taken None b line one next end some = tt
last_taken (Some all) None line one next end some = absurd next
last_taken (Some all) (Some rest) line one next end some =
    ap lines_of (next ∙ ap (λ l. line ++ l) end ∙ append-nil line) ∙ lines-last line one some ∙ ap (λ ls. line ∷ ls) (sym (ap lines_of end ∙ lines-none))

-- no line is left
pub none_taken : (a b : Option (List ℕ)) (line : List ℕ) → Consumes a b line → IsAtEnd b → line ≡ [] → IfSome a (λ all. lines_of all ≡ [])
none_taken None b line next end none = tt
none_taken (Some all) None line next end none = absurd next
none_taken (Some all) (Some rest) line next end none = ap lines_of (next ∙ ap (λ l. l ++ rest) none ∙ end) ∙ lines-none

-- one line more
pub taken_more : (a b c : Option (List ℕ)) (lines : List (List ℕ)) (line : List ℕ) → AreTaken a b lines → AreTaken b c (line ∷ []) → AreTaken a c (lines ++ line ∷ [])
taken_more None b c lines line so_far next = tt
taken_more (Some all) None c lines line so_far next = absurd so_far
taken_more (Some all) (Some left) None lines line so_far next = absurd next
taken_more (Some all) (Some left) (Some rest) lines line so_far next =
    so_far ∙ ap (λ l. lines ++ l) next ∙ sym (append_assoc lines (line ∷ []) (lines_of rest))

-- the lines of all that is known, where none is left
pub taken_all : (a b : Option (List ℕ)) (lines : List (List ℕ)) → AreTaken a b lines → IfSome b (λ all. lines_of all ≡ []) → IfSome a (λ all. lines ≡ lines_of all)
taken_all None b lines so_far none = tt
taken_all (Some all) None lines so_far none = absurd so_far
taken_all (Some all) (Some left) lines so_far none = sym (so_far ∙ ap (λ l. lines ++ l) none ∙ append-nil lines)

-- what holds of these lines holds of all
pub of_all : (P : List (List ℕ) → Type 0) (a : Option (List ℕ)) (lines : List (List ℕ)) → IfSome a (λ all. lines ≡ lines_of all) → P lines → IfSome a (λ all. P (lines_of all))
of_all P None lines same holds = tt
of_all P (Some all) lines same holds = subst P same holds

-- ---- a line that holds nothing, and one that does

pub none-left : (line : List ℕ) (n : ℕ) (b : Bool) → b ≡ (n == 0) → n ≡ length line → b ≡ true → line ≡ []
none-left line n b is same test = nil_from_length line (sym same ∙ eqb-true n 0 (sym is ∙ test))

pub some-left : (line : List ℕ) (n : ℕ) (b : Bool) → b ≡ (n == 0) → n ≡ length line → b ≡ false → 0 < length line
some-left [] n b is same test = absurd (true≢false (sym (is ∙ ap (λ k. k == 0) same) ∙ test))
some-left (c ∷ line) n b is same test = omega arith
