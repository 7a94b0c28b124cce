-- A character of several bytes is read as each of its bytes is.
use Rattle.std.proofs.Common.{◌≡◌, ◌≤◌, ◌<◌, ◌==◌, ◌||◌, ℕ, suc, Bool, true, false, List, [], ◌∷◌, ◌++◌, length, fold, get_or, refl, sym, ap, ap₂, ◌∙◌, append_assoc, append-nil, eqb-true, length-append, lit<, arith, ⊎_elim}
use Rattle.std.specs.Char.{encode_utf8}
use Rattle.std.specs.List.{after_first, before_first, list_any, position_or_len}
use Rattle.std.proofs.lemmas.Bool.{cases_lt}
use Rattle.std.proofs.lemmas.List.Sums.{fold-append, passes_at_first, split_at_first}
use Rattle.std.proofs.lemmas.Str.{encode_ascii, inside_one, length-encode, len_utf8_bounds}
use Rattle.mx_requests.specs.declared.authorization.HeaderState.{HeaderState}
use Rattle.mx_requests.specs.declared.authorization.HeaderState.TheVariants.{BeforeName, InName, BeforeValue, InValue, InQuotes, AfterBackslash, AfterQuote, AfterSpaces, Outside}
use Rattle.mx_requests.specs.declared.authorization.HeaderAction.TheVariants.{AddToValue}
use Rattle.mx_requests.specs.Authorization.{PartView, Reading, step, stepped, feed}
use Rattle.mx_requests.specs.Reading.{is_in_quotes, is_mark}

-- such a byte ends nothing
pub step_other : (p : HeaderState) (c : ℕ) → 128 ≤ c → step p c ≡ step p 128
step_other BeforeName c large = grind arith
step_other InName c large = grind arith
step_other BeforeValue c large = grind arith
step_other InValue c large = grind arith
step_other InQuotes c large = grind arith
step_other AfterBackslash c large = refl
step_other AfterQuote c large = grind arith
step_other AfterSpaces c large = grind arith
step_other Outside c large = refl

abbrev reading : List PartView → HeaderState → List ℕ → List ℕ → Reading
reading parts place name value = record { parts = parts; place = place; name = name; value = value }

-- two steps of such bytes are one of both
twice : (parts : List PartView) (p : HeaderState) (name value xs ys : List ℕ)
    → stepped (step (stepped (step p 128) (reading parts p name value) xs).place 128) (stepped (step p 128) (reading parts p name value) xs) ys
    ≡ stepped (step p 128) (reading parts p name value) (xs ++ ys)
twice parts BeforeName name value xs ys = ap (λ n. reading parts InName n value) (append_assoc name xs ys)
twice parts InName name value xs ys = ap (λ n. reading parts InName n value) (append_assoc name xs ys)
twice parts BeforeValue name value xs ys = ap (λ v. reading parts InValue name v) (append_assoc value xs ys)
twice parts InValue name value xs ys = ap (λ v. reading parts InValue name v) (append_assoc value xs ys)
twice parts InQuotes name value xs ys = ap (λ v. reading parts InQuotes name v) (append_assoc value xs ys)
twice parts AfterBackslash name value xs ys = ap (λ v. reading parts InQuotes name v) (append_assoc value xs ys)
twice parts AfterQuote name value xs ys = refl
twice parts AfterSpaces name value xs ys = refl
twice parts Outside name value xs ys = refl

others : (r : Reading) (b : ℕ) (bs : List ℕ) → ((k : ℕ) → k < length (b ∷ bs) → 128 ≤ get_or (b ∷ bs) k 0)
    → fold feed r (b ∷ bs) ≡ stepped (step r.place 128) r (b ∷ bs)
others r b [] large = ap (λ s. stepped s r (b ∷ [])) (step_other r.place b (large 0 (omega arith)))
others r b (b' ∷ bs) large =
    let once : feed r b ≡ stepped (step r.place 128) r (b ∷ []) = ap (λ s. stepped s r (b ∷ [])) (step_other r.place b (large 0 (omega arith))) in
    others (feed r b) b' bs (λ k within. large (suc k) (omega (arith, within)))
    ∙ ap (λ q. stepped (step q.place 128) q (b' ∷ bs)) once
    ∙ twice r.parts r.place r.name r.value (b ∷ []) (b' ∷ bs)

large_bytes : (r : Reading) (c : ℕ) (bs : List ℕ) → bs ≡ encode_utf8 c → 0 < length bs → 128 ≤ c
    → ((k : ℕ) → k < length bs → 128 ≤ get_or bs k 0) → fold feed r bs ≡ stepped (step r.place c) r bs
large_bytes r c [] is some large every = absurd (omega (arith, some))
large_bytes r c (b ∷ bs) is some large every =
    others r b bs every ∙ ap (λ s. stepped s r (b ∷ bs)) (sym (step_other r.place c large))

-- a quoted value in which nothing ends it and nothing is escaped
pub feed_quoted : (parts : List PartView) (name value bs : List ℕ) → list_any is_mark bs ≡ false
    → fold feed (reading parts InQuotes name value) bs ≡ reading parts InQuotes name (value ++ bs)
feed_quoted parts name value [] none = ap (λ v. reading parts InQuotes name v) (sym (append-nil value))
feed_quoted parts name value (b ∷ bs) none =
    ap (λ s. fold feed (stepped s (reading parts InQuotes name value) (b ∷ [])) bs) (plain b (or_parts (is_mark b) (list_any is_mark bs) none).0)
    ∙ feed_quoted parts name (value ++ b ∷ []) bs (or_parts (is_mark b) (list_any is_mark bs) none).1
    ∙ ap (λ v. reading parts InQuotes name v) (append_assoc value (b ∷ []) bs)
  where
    plain : (c : ℕ) → is_mark c ≡ false → step InQuotes c ≡ AddToValue InQuotes
    plain c other = grind arith

    or_parts : (a b : Bool) → (a || b) ≡ false → (a ≡ false) × (b ≡ false)
    or_parts true b e = absurd (cc e)
    or_parts false b e = (refl, e)

-- a quoted value is read at once, with the quotation mark behind it
pub quoted_at_once : (parts : List PartView) (p : HeaderState) (name value text quoted rest whole : List ℕ) → is_in_quotes p ≡ true → text ≡ quoted ++ (34 ∷ rest)
    → list_any is_mark quoted ≡ false → whole ≡ value ++ quoted
    → fold feed (reading parts AfterQuote name whole) rest ≡ fold feed (reading parts p name value) text
quoted_at_once parts InQuotes name value text quoted rest whole at is none added =
    ap (λ v. fold feed (reading parts AfterQuote name v) rest) added
    ∙ ap (λ r. fold feed r (34 ∷ rest)) (sym (feed_quoted parts name value quoted none))
    ∙ sym (fold-append feed (reading parts InQuotes name value) quoted (34 ∷ rest))
    ∙ ap (fold feed (reading parts InQuotes name value)) (sym is)
quoted_at_once parts BeforeName name value text quoted rest whole at is none added = absurd (cc at)
quoted_at_once parts InName name value text quoted rest whole at is none added = absurd (cc at)
quoted_at_once parts BeforeValue name value text quoted rest whole at is none added = absurd (cc at)
quoted_at_once parts InValue name value text quoted rest whole at is none added = absurd (cc at)
quoted_at_once parts AfterBackslash name value text quoted rest whole at is none added = absurd (cc at)
quoted_at_once parts AfterQuote name value text quoted rest whole at is none added = absurd (cc at)
quoted_at_once parts AfterSpaces name value text quoted rest whole at is none added = absurd (cc at)
quoted_at_once parts Outside name value text quoted rest whole at is none added = absurd (cc at)

-- a text is what stands before its first quotation mark, that mark, and the rest
pub split_at_quote : (text before after : List ℕ) → position_or_len (λ b. b == 34) text < length text
    → before ≡ before_first (λ b. b == 34) text → after ≡ after_first (λ b. b == 34) text → text ≡ before ++ (34 ∷ after)
split_at_quote text before after inside front back =
    split_at_first (λ b. b == 34) text 0 inside
    ∙ ap₂ (λ xs ys. xs ++ ys) (sym front) (ap₂ (λ x xs. x ∷ xs) (eqb-true _ 34 (passes_at_first (λ b. b == 34) text 0 inside)) (sym back))

-- one character
pub feed_character : (r : Reading) (c : ℕ) → fold feed r (encode_utf8 c) ≡ stepped (step r.place c) r (encode_utf8 c)
feed_character r c =
    ⊎_elim
    (λ small. rw (encode_ascii c small) refl)
    (λ large. large_bytes r c (encode_utf8 c) refl (rw (length-encode c) (len_utf8_bounds c).0) large (λ k within.
    ⊎_elim
    (λ small. let is = inside_one c [] (encode_utf8 c) k (sym (append-nil (encode_utf8 c))) within small in absurd (omega (arith, is, small, large)))
    (λ high. high)
    (cases_lt (get_or (encode_utf8 c) k 0) 128)))
    (cases_lt c 128)

-- what stands before a quotation mark, that mark, and some of what follows
pub read_past : (r read fed last : Reading) (text before after rest : List ℕ) → text ≡ before ++ (34 ∷ after) → read ≡ fold feed r before
    → fed ≡ stepped (step read.place 34) read (encode_utf8 34) → fold feed last rest ≡ fold feed fed after → fold feed last rest ≡ fold feed r text
read_past r read fed last text before after rest is was then follows =
    follows
    ∙ ap (λ q. fold feed q after) (then ∙ sym (feed_character read 34) ∙ ap (fold feed read) (encode_ascii 34 (lit< tt)))
    ∙ ap (λ q. fold feed q (34 ∷ after)) was
    ∙ sym (fold-append feed r before (34 ∷ after))
    ∙ ap (fold feed r) (sym is)

pub rest_is_shorter : (text before after : List ℕ) → text ≡ before ++ (34 ∷ after) → length after < length text
rest_is_shorter text before after is = let l = ap length is ∙ length-append before (34 ∷ after) in omega (arith, l)
