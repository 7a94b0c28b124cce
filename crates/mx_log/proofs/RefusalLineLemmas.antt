-- Lines that refuse, in an output.
use Rattle.std.proofs.Common.{◌≡◌, ℕ, List, [], ◌∷◌, ◌++◌, Bool, true, false, ◌==◌, ◌||◌, if◌then◌else◌, refl, sym, ap, ◌∙◌, append_assoc, inl, inr}
use Rattle.std.specs.Prelude.{bytes_eq}
use Rattle.std.specs.List.{list_any, onto_first}
use Rattle.std.proofs.lemmas.List.Folds.{list_any-append}
use Rattle.std.specs.Str.{chars}
use Rattle.std.specs.Fmt.{digits}
use Rattle.mx_canon.specs.Canonical.{canonical_text}
use Rattle.mx_log.specs.declared.answers.LineRefusal.{LineRefusal}
use Rattle.mx_log.specs.declared.answers.LineRefusal.TheVariants.{Step, Request}
use Rattle.mx_log.specs.Lines.{lines_of}
use Rattle.mx_log.specs.LineOutputs.{has_refusal, refusals}
use Rattle.mx_log.specs.LinesShown.{refusal_output}
use Rattle.mx_log.specs.LineRuns.{IsEnded}

or-false : (a b : Bool) → (a || b) ≡ false → (a ≡ false) × (b ≡ false)
or-false true b h = absurd (cc h)
or-false false b h = (refl, h)

or-true-right : (a : Bool) → (a || true) ≡ true
or-true-right true = refl
or-true-right false = refl

abbrev pub has_newline : List ℕ → Bool
has_newline line = list_any (λ c. c == 10) line

abbrev IsFilled : List (List ℕ) → Type 0
IsFilled parts = (first : List ℕ) × (rest : List (List ℕ)) × (parts ≡ first ∷ rest)

filled-step : (b : Bool) (c : ℕ) (parts : List (List ℕ)) → IsFilled parts → IsFilled (if b then [] ∷ parts else onto_first c parts)
filled-step true c parts (first, rest, is) = ([], parts, refl)
filled-step false c parts (first, rest, is) = (c ∷ first, rest, ap (onto_first c) is)

-- a text that ends with a newline has a line
filled : (front : List ℕ) → IsFilled (lines_of (front ++ 10 ∷ []))
unfolding lines_of
filled [] = ([], [], refl)
filled (c ∷ cs) = filled-step (c == 10) c (lines_of (cs ++ 10 ∷ [])) (filled cs)

onto-append : (c : ℕ) (parts more : List (List ℕ)) → IsFilled parts → onto_first c (parts ++ more) ≡ onto_first c parts ++ more
onto-append c parts more (first, rest, is) = rw is refl

step : (b : Bool) (c : ℕ) (all parts more : List (List ℕ)) → IsFilled parts → all ≡ parts ++ more
    → (if b then [] ∷ all else onto_first c all) ≡ (if b then [] ∷ parts else onto_first c parts) ++ more
step true c all parts more full is = ap (λ ls. [] ∷ ls) is
step false c all parts more full is = ap (onto_first c) is ∙ onto-append c parts more full

lines-after : (front rest : List ℕ) → lines_of (front ++ 10 ∷ rest) ≡ lines_of (front ++ 10 ∷ []) ++ lines_of rest
unfolding lines_of
lines-after [] rest = refl
lines-after (c ∷ cs) rest = step (c == 10) c (lines_of (cs ++ 10 ∷ rest)) (lines_of (cs ++ 10 ∷ [])) (lines_of rest) (filled cs) (lines-after cs rest)

-- what follows a newline begins a line
pub lines-append : (out rest : List ℕ) → IsEnded out → lines_of (out ++ rest) ≡ lines_of out ++ lines_of rest
unfolding lines_of
lines-append out rest (inl is) = rw is refl
lines-append out rest (inr (front, is)) = rw is (ap lines_of (append_assoc front (10 ∷ []) rest) ∙ lines-after front rest)

-- a line with no newline in it is the first line of itself, a newline and more
line-step : (b : Bool) (c : ℕ) (line : List ℕ) (all more : List (List ℕ)) → b ≡ false → all ≡ line ∷ more
    → (if b then [] ∷ all else onto_first c all) ≡ (c ∷ line) ∷ more
line-step b c line all more plain is = rw (plain, is) refl

pub first-line : (line rest : List ℕ) → has_newline line ≡ false → lines_of (line ++ 10 ∷ rest) ≡ line ∷ lines_of rest
unfolding lines_of
first-line [] rest plain = refl
first-line (c ∷ cs) rest plain =
    let (here, later) = or-false (c == 10) (has_newline cs) plain in
    line-step (c == 10) c cs (lines_of (cs ++ 10 ∷ rest)) (lines_of rest) here (first-line cs rest later)

abbrev is_refusal : List ℕ → Bool
is_refusal line = list_any (bytes_eq line) refusals

-- a refusal stays one, whatever is written after it
pub refusal-stays : (out rest : List ℕ) → IsEnded out → has_refusal out ≡ true → has_refusal (out ++ rest) ≡ true
refusal-stays out rest ended refused =
    ap (list_any is_refusal) (lines-append out rest ended) ∙ list_any-append is_refusal (lines_of out) (lines_of rest)
    ∙ ap (λ b. b || has_refusal rest) refused

-- a refusal on a line of its own
pub refusal-told : (out line rest : List ℕ) → IsEnded out → has_newline line ≡ false → list_any (bytes_eq line) refusals ≡ true
    → has_refusal (out ++ (line ++ 10 ∷ rest)) ≡ true
refusal-told out line rest ended plain is =
    ap (list_any is_refusal) (lines-append out (line ++ 10 ∷ rest) ended ∙ ap (λ ls. lines_of out ++ ls) (first-line line rest plain))
    ∙ list_any-append is_refusal (lines_of out) (line ∷ lines_of rest)
    ∙ ap (λ b. list_any is_refusal (lines_of out) || (b || list_any is_refusal (lines_of rest))) is
    ∙ or-true-right (list_any is_refusal (lines_of out))

-- each line that stands in place of an answer is a refusal, and one line
pub each-refuses : (r : LineRefusal) → list_any (bytes_eq (refusal_output r)) refusals ≡ true
unfolding canonical_text chars digits
each-refuses Step = refl
each-refuses Request = refl

each-plain : (r : LineRefusal) → has_newline (refusal_output r) ≡ false
unfolding canonical_text chars digits
each-plain Step = refl
each-plain Request = refl

pub refused : (out rest : List ℕ) (r : LineRefusal) → IsEnded out → has_refusal (out ++ (refusal_output r ++ 10 ∷ rest)) ≡ true
refused out rest r ended = refusal-told out (refusal_output r) rest ended (each-plain r) (each-refuses r)

-- ---- outputs that end with a newline

pub ended-none : IsEnded []
ended-none = inl refl

pub ended-more : (out line : List ℕ) → IsEnded (out ++ (line ++ 10 ∷ []))
ended-more out line = inr (out ++ line, sym (append_assoc out line (10 ∷ [])))
