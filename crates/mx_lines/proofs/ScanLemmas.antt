-- Scanning passes over a member, and stops behind it; so the content of an event is found in its text.
use Rattle.std.proofs.Common.{◌≡◌, ◌+◌, ◌-◌, ◌/◌, ◌%◌, ◌==◌, ◌||◌, ℕ, zero, suc, Bool, true, false, cond, List, [], ◌∷◌, ◌++◌, length, take, drop, Some, refl, sym, ap, ◌∙◌, subst, arith, append_assoc, true≢false, ◌⊎◌, inl, inr, unwrap_or, pos, negsuc}
use Rattle.std.specs.Prelude.{codes, nat_lt, bytes_eq, decimal}
use Rattle.std.specs.Char.{digit_char}
use Rattle.std.specs.Fmt.{digit_glyph, digits_onto, digits}
use Rattle.std.specs.Cmp.Lexicographic.{slice_cmp}
use Rattle.std.specs.Ordering.{match_ordering, nat_cmp, is_eq}
use Rattle.std.specs.declared.cmp.Ordering.{Ordering}
use Rattle.std.specs.declared.cmp.Ordering.TheVariants.{Less, Equal, Greater}
use Rattle.std.proofs.lemmas.Bool.Decides.{nat_tests}
use Rattle.std.proofs.lemmas.List.{append_cancel_right}
use Rattle.std.proofs.lemmas.Map.Text.{is_eq-slice_cmp}
use Rattle.std.proofs.lemmas.Slice.Eq.{bytes_eq-Decides}
use Rattle.json.specs.Print.{escape_byte, escape_letter, escape, quoted}
use Rattle.serde_json.specs.Data.{Num, unsigned, negative, float, Data, null, boolean, number, string, array, object, Items, no_items, item, Members, no_members, member}
use Rattle.serde_json.specs.Find.{get_member}
use Rattle.serde_json.specs.Written.{compact_text, items_text, members_text, number_text}
use Rattle.mx_canon.specs.Canonical.{canonical_text, value_text}
use Rattle.mx_canon.specs.KeyOrder.{KeysRise, KeysRiseInMembers}
use Rattle.mx_canon.proofs.TextLemmas.{canon_same}
use Rattle.mx_redact.specs.Fields.{is_object}
use Rattle.mx_pdu.specs.Event.{content_of}
use Rattle.mx_lines.specs.Scanning.{outside, inside, is_mark, is_sign, left_from, content_key}

-- ---- one byte

plain-step : (d b : ℕ) (t : List ℕ) → is_sign b ≡ false → (b == 44 || b == 125) ≡ false → left_from (outside d) (b ∷ t) ≡ left_from (outside d) t
plain-step d b t sign end = rw (end, sign) refl

character-step : (d b : ℕ) (t : List ℕ) → is_mark b ≡ false → left_from (inside d) (b ∷ t) ≡ left_from (inside d) t
character-step d b t mark = rw mark refl

-- ---- strings

digit-is : (n : ℕ) → is_mark (digit_char n) ≡ false
digit-is n = by (nat_lt n 10) refl
  where
    by : (b : Bool) → nat_lt n 10 ≡ b → is_mark (cond b (48 + n) (87 + n)) ≡ false
    by true h = grind (arith, nat_tests)
    by false h = grind (arith, nat_tests)

unescaped-is : (x : ℕ) → nat_lt 0 (escape_letter x) ≡ false → is_mark x ≡ false
unescaped-is x h = by (is_mark x) refl
  where
    by : (b : Bool) → is_mark x ≡ b → b ≡ false
    by false e = refl
    by true e = absurd (true≢false (sym (grind (arith, nat_tests)) ∙ h))

-- what stands in a string for a byte below 32 that has no letter
abbrev control : ℕ → List ℕ
control x = 92 ∷ 117 ∷ 48 ∷ 48 ∷ digit_char (x / 16) ∷ digit_char (x % 16) ∷ []

byte-skipped : (x d : ℕ) (t : List ℕ) → left_from (inside d) (escape_byte x ++ t) ≡ left_from (inside d) t
unfolding escape_byte
byte-skipped x d t = by (nat_lt 0 (escape_letter x)) refl
  where
    two : (c : Bool) → is_mark x ≡ false
        → left_from (inside d) (cond c (control x) (x ∷ []) ++ t) ≡ left_from (inside d) t
    two true h = character-step d (digit_char (x / 16)) (digit_char (x % 16) ∷ t) (digit-is (x / 16)) ∙ character-step d (digit_char (x % 16)) t (digit-is (x % 16))
    two false h = character-step d x t h

    by : (b : Bool) → nat_lt 0 (escape_letter x) ≡ b
        → left_from (inside d) (cond b (92 ∷ escape_letter x ∷ []) (cond (nat_lt x 32) (control x) (x ∷ [])) ++ t) ≡ left_from (inside d) t
    by true h = refl
    by false h = two (nat_lt x 32) (unescaped-is x h)

escape-skipped : (s : List ℕ) (d : ℕ) (t : List ℕ) → left_from (inside d) (escape s ++ 34 ∷ t) ≡ left_from (outside d) t
escape-skipped [] d t = refl
escape-skipped (x ∷ s) d t =
    ap (left_from (inside d)) (append_assoc (escape_byte x) (escape s) (34 ∷ t)) ∙ byte-skipped x d (escape s ++ 34 ∷ t) ∙ escape-skipped s d t

quoted-skipped : (s : List ℕ) (d : ℕ) (t : List ℕ) → left_from (outside d) (quoted s ++ t) ≡ left_from (outside d) t
quoted-skipped s d t = ap (left_from (inside d)) (append_assoc (escape s) (34 ∷ []) t) ∙ escape-skipped s d t

-- ---- numbers

glyph-plain : (d n : ℕ) (t : List ℕ) → left_from (outside d) (digit_glyph false (n % 10) ∷ t) ≡ left_from (outside d) t
glyph-plain d n t = plain-step d (digit_glyph false (n % 10)) t (grind (arith, nat_tests)) (grind (arith, nat_tests))

one-of : (P : List ℕ → Type 0) (b : Bool) (x y : List ℕ) → P x → P y → P (cond b x y)
one-of P true x y at_x at_y = at_x
one-of P false x y at_x at_y = at_y

onto-skipped : (k n d : ℕ) (acc t : List ℕ) → ((u : List ℕ) → left_from (outside d) (acc ++ u) ≡ left_from (outside d) u)
    → left_from (outside d) (digits_onto k 10 false n acc ++ t) ≡ left_from (outside d) t
onto-skipped zero n d acc t h = h t
onto-skipped (suc k) n d acc t h =
    let more : (u : List ℕ) → left_from (outside d) ((digit_glyph false (n % 10) ∷ acc) ++ u) ≡ left_from (outside d) u
    = λ u. glyph-plain d n (acc ++ u) ∙ h u in
    one-of (λ s. left_from (outside d) (s ++ t) ≡ left_from (outside d) t) (n / 10 == 0) (digit_glyph false (n % 10) ∷ acc)
    (digits_onto k 10 false (n / 10) (digit_glyph false (n % 10) ∷ acc)) (more t) (onto-skipped k (n / 10) d (digit_glyph false (n % 10) ∷ acc) t more)

decimal-skipped : (n d : ℕ) (t : List ℕ) → left_from (outside d) (decimal n ++ t) ≡ left_from (outside d) t
unfolding digits
decimal-skipped n d t = onto-skipped 64 n d [] t (λ u. refl)

number-skipped : (n : Num) (d : ℕ) (t : List ℕ) → left_from (outside d) (number_text n ++ t) ≡ left_from (outside d) t
number-skipped (unsigned n) d t = decimal-skipped n d t
number-skipped (negative (pos n)) d t = decimal-skipped n d t
number-skipped (negative (negsuc n)) d t = decimal-skipped (suc n) d t
number-skipped (float x) d t = refl

-- ---- values

deeper : (d : ℕ) → (suc d == 0) ≡ false
deeper d = grind (arith, nat_tests)

-- behind a closing bracket
closed : (d : ℕ) (t : List ℕ) → left_from (outside (suc d - 1)) t ≡ left_from (outside d) t
closed d t =
    let same : suc d - 1 ≡ d = omega arith in
    ap (λ n. left_from (outside n) t) same

bracket-skipped : (d : ℕ) (t : List ℕ) → left_from (outside (suc d)) (93 ∷ t) ≡ left_from (outside d) t
bracket-skipped d t = closed d t

brace-skipped : (d : ℕ) (t : List ℕ) → left_from (outside (suc d)) (125 ∷ t) ≡ left_from (outside d) t
brace-skipped d t = rw (deeper d) (closed d t)

comma-skipped : (d : ℕ) (t : List ℕ) → left_from (outside (suc d)) (44 ∷ t) ≡ left_from (outside (suc d)) t
comma-skipped d t = rw (deeper d) refl

-- a value, and what comes behind it
item-skipped : (value rest t : List ℕ) (d : ℕ) → left_from (outside (suc d)) (value ++ (rest ++ t)) ≡ left_from (outside (suc d)) (rest ++ t)
    → left_from (outside (suc d)) (rest ++ t) ≡ left_from (outside d) t → left_from (outside (suc d)) ((value ++ rest) ++ t) ≡ left_from (outside d) t
item-skipped value rest t d over behind = ap (left_from (outside (suc d))) (append_assoc value rest t) ∙ over ∙ behind

-- a key, its value, and what comes behind them
member-skipped : (k value rest t : List ℕ) (d : ℕ) → left_from (outside (suc d)) (value ++ (rest ++ t)) ≡ left_from (outside (suc d)) (rest ++ t)
    → left_from (outside (suc d)) (rest ++ t) ≡ left_from (outside d) t
    → left_from (outside (suc d)) ((quoted k ++ 58 ∷ (value ++ rest)) ++ t) ≡ left_from (outside d) t
member-skipped k value rest t d over behind =
    ap (left_from (outside (suc d))) (append_assoc (quoted k) (58 ∷ (value ++ rest)) t)
    ∙ quoted-skipped k (suc d) (58 ∷ ((value ++ rest) ++ t))
    ∙ item-skipped value rest t d over behind

mutual
  skipped : (v : Data) (d : ℕ) (t : List ℕ) → left_from (outside d) (compact_text v ++ t) ≡ left_from (outside d) t
  skipped null d t = refl
  skipped (boolean true) d t = refl
  skipped (boolean false) d t = refl
  skipped (number n) d t = number-skipped n d t
  skipped (string s) d t = quoted-skipped s d t
  skipped (array vs) d t = items-skipped false vs d t
  skipped (object ms) d t = members-skipped false ms d t

  items-skipped : (later : Bool) (vs : Items) (d : ℕ) (t : List ℕ) → left_from (outside (suc d)) (items_text later vs ++ t) ≡ left_from (outside d) t
  items-skipped later no_items d t = bracket-skipped d t
  items-skipped true (item v vs) d t =
      comma-skipped d ((compact_text v ++ items_text true vs) ++ t)
      ∙ item-skipped (compact_text v) (items_text true vs) t d (skipped v (suc d) (items_text true vs ++ t)) (items-skipped true vs d t)
  items-skipped false (item v vs) d t = item-skipped (compact_text v) (items_text true vs) t d (skipped v (suc d) (items_text true vs ++ t)) (items-skipped true vs d t)

  members-skipped : (later : Bool) (ms : Members) (d : ℕ) (t : List ℕ) → left_from (outside (suc d)) (members_text later ms ++ t) ≡ left_from (outside d) t
  members-skipped later no_members d t = brace-skipped d t
  members-skipped true (member k v ms) d t =
      comma-skipped d ((quoted k ++ 58 ∷ (compact_text v ++ members_text true ms)) ++ t)
      ∙ member-skipped k (compact_text v) (members_text true ms) t d (skipped v (suc d) (members_text true ms ++ t)) (members-skipped true ms d t)
  members-skipped false (member k v ms) d t = member-skipped k (compact_text v) (members_text true ms) t d (skipped v (suc d) (members_text true ms ++ t)) (members-skipped true ms d t)

-- ---- the members of an object, one by one

later-left : (ms : Members) → left_from (outside 0) (members_text true ms) ≡ members_text true ms
later-left no_members = refl
later-left (member k v ms) = refl

value-left : (v : Data) (ms : Members) → left_from (outside 0) (compact_text v ++ members_text true ms) ≡ members_text true ms
value-left v ms = skipped v 0 (members_text true ms) ∙ later-left ms

first-left : (k : List ℕ) (v : Data) (ms : Members) → left_from (outside 0) (members_text false (member k v ms)) ≡ members_text true ms
first-left k v ms = quoted-skipped k 0 (58 ∷ (compact_text v ++ members_text true ms)) ∙ value-left v ms

-- ---- the key of a member

-- a text whose bytes stand in a string as they are
abbrev IsPlainText : List ℕ → Type 0
IsPlainText [] = Unit {0}
IsPlainText (c ∷ w) = (is_mark c ≡ false) × IsPlainText w

byte-is : (x : ℕ) → ((escape_byte x ≡ x ∷ []) × (is_mark x ≡ false)) ⊎ ((e : List ℕ) × (escape_byte x ≡ 92 ∷ e))
unfolding escape_byte
byte-is x = by (nat_lt 0 (escape_letter x)) (nat_lt x 32) refl
  where
    by : (b c : Bool) → nat_lt 0 (escape_letter x) ≡ b
        → ((cond b (92 ∷ escape_letter x ∷ []) (cond c (control x) (x ∷ [])) ≡ x ∷ []) × (is_mark x ≡ false))
        ⊎ ((e : List ℕ) × (cond b (92 ∷ escape_letter x ∷ []) (cond c (control x) (x ∷ [])) ≡ 92 ∷ e))
    by true c h = inr (escape_letter x ∷ [], refl)
    by false true h = inr (117 ∷ 48 ∷ 48 ∷ digit_char (x / 16) ∷ digit_char (x % 16) ∷ [], refl)
    by false false h = inl (refl, unescaped-is x h)

-- what a string begins with stands there as it is, or is a backslash
first-of : (x c : ℕ) (rest y z : List ℕ) (n : ℕ) → take (suc n) ((escape_byte x ++ rest) ++ y) ≡ c ∷ z
    → ((x ≡ c) × (is_mark c ≡ false) × (take n (rest ++ y) ≡ z)) ⊎ (c ≡ 92)
first-of x c rest y z n h = by (byte-is x)
  where
    by : ((escape_byte x ≡ x ∷ []) × (is_mark x ≡ false)) ⊎ ((e : List ℕ) × (escape_byte x ≡ 92 ∷ e)) → ((x ≡ c) × (is_mark c ≡ false) × (take n (rest ++ y) ≡ z)) ⊎ (c ≡ 92)
    by (inl (one, plain)) =
        let both : x ∷ take n (rest ++ y) ≡ c ∷ z = subst (λ s. take (suc n) ((s ++ rest) ++ y) ≡ c ∷ z) one h in
        let same : x ≡ c = cc both in
        inl (same, ap is_mark (sym same) ∙ plain, cc both)
    by (inr (e, marked)) =
        let both : 92 ∷ take n ((e ++ rest) ++ y) ≡ c ∷ z = subst (λ s. take (suc n) ((s ++ rest) ++ y) ≡ c ∷ z) marked h in
        inr (cc both)

key-ends : (c : ℕ) (t z : List ℕ) → is_mark c ≡ false → 34 ∷ t ≡ c ∷ z → ⊥
key-ends c t z plain h =
    let same : 34 ≡ c = cc h in
    true≢false (ap is_mark same ∙ plain)

key-goes-on : (c x : ℕ) (rest y z : List ℕ) (n : ℕ) → is_mark c ≡ true → (c == 92) ≡ false → take (suc n) ((escape_byte x ++ rest) ++ y) ≡ c ∷ z → ⊥
key-goes-on c x rest y z n mark other h = by (first-of x c rest y z n h)
  where
    by : ((x ≡ c) × (is_mark c ≡ false) × (take n (rest ++ y) ≡ z)) ⊎ (c ≡ 92) → ⊥
    by (inl (same, plain, more)) = true≢false (sym mark ∙ plain)
    by (inr same) = true≢false (sym (ap (λ b. b == 92) same) ∙ other)

key-step : (c x : ℕ) (w k rest y z : List ℕ) (n : ℕ) → is_mark c ≡ false → (take n (rest ++ y) ≡ z → k ≡ w)
    → take (suc n) ((escape_byte x ++ rest) ++ y) ≡ c ∷ z → x ∷ k ≡ c ∷ w
key-step c x w k rest y z n plain more h = by (first-of x c rest y z n h)
  where
    by : ((x ≡ c) × (is_mark c ≡ false) × (take n (rest ++ y) ≡ z)) ⊎ (c ≡ 92) → x ∷ k ≡ c ∷ w
    by (inl (same, other, behind)) = let later : k ≡ w = more behind in cc (same, later)
    by (inr same) = absurd (true≢false (ap is_mark (sym same) ∙ plain))

key-same : (w k y : List ℕ) → IsPlainText w → take (suc (suc (length w))) (escape k ++ 34 ∷ y) ≡ w ++ 34 ∷ 58 ∷ [] → k ≡ w
key-same [] [] y plain h = refl
key-same (c ∷ w) [] y plain h = absurd (key-ends c _ _ plain.0 h)
key-same [] (x ∷ k) y plain h = absurd (key-goes-on 34 x (escape k) (34 ∷ y) (58 ∷ []) 1 refl refl h)
key-same (c ∷ w) (x ∷ k) y plain h = key-step c x w k (escape k) (34 ∷ y) (w ++ 34 ∷ 58 ∷ []) (suc (suc (length w))) plain.0 (key-same w k y plain.1) h

abbrev name : List ℕ
name = codes "content"

-- the text begins with the key of the content
abbrev Starts : List ℕ → Bool
Starts text = bytes_eq content_key (take (length content_key) text)

key-is : (k y : List ℕ) → Starts (quoted k ++ 58 ∷ y) ≡ true → k ≡ name
key-is k y h =
    let same : content_key ≡ take (length content_key) (quoted k ++ 58 ∷ y) = (bytes_eq-Decides content_key (take (length content_key) (quoted k ++ 58 ∷ y))).0 h in
    let behind : take 9 ((escape k ++ 34 ∷ []) ++ 58 ∷ y) ≡ name ++ 34 ∷ 58 ∷ [] = cc same in
    key-same name k (58 ∷ y) (refl, (refl, (refl, (refl, (refl, (refl, (refl, tt))))))) (ap (take 9) (sym (append_assoc (escape k) (34 ∷ []) (58 ∷ y))) ∙ behind)

-- ---- the content among the members

value-is : (v : Data) (ms : Members) (content : List ℕ)
    → content ++ left_from (outside 0) (compact_text v ++ members_text true ms) ≡ compact_text v ++ members_text true ms → content ≡ compact_text v
value-is v ms content h =
    append_cancel_right content (compact_text v) (members_text true ms) (ap (λ t. content ++ t) (sym (value-left v ms)) ∙ h)

found-here : (k : List ℕ) (v : Data) (ms : Members) (content : List ℕ) → Starts (members_text false (member k v ms)) ≡ true
    → content ++ left_from (outside 0) (drop (length content_key) (members_text false (member k v ms))) ≡ drop (length content_key) (members_text false (member k v ms))
    → (get_member name (member k v ms) ≡ Some v) × (content ≡ compact_text v)
unfolding escape_byte
found-here k v ms content starts h =
    subst (λ j. content ++ left_from (outside 0) (drop (length content_key) (members_text false (member j v ms))) ≡ drop (length content_key) (members_text false (member j v ms))
    → (get_member name (member j v ms) ≡ Some v) × (content ≡ compact_text v))
    (sym (key-is k (compact_text v ++ members_text true ms) starts)) (λ g. (refl, value-is v ms content g)) h

found-later : (k : List ℕ) (v : Data) (ms : Members) → Starts (members_text false (member k v ms)) ≡ false → get_member name (member k v ms) ≡ get_member name ms
unfolding escape_byte
found-later k v ms h = other (slice_cmp nat_cmp name k) (is_eq-slice_cmp name k ∙ differs (bytes_eq name k) refl)
  where
    differs : (b : Bool) → bytes_eq name k ≡ b → b ≡ false
    differs false e = refl
    differs true e =
        let there : Starts (members_text false (member k v ms)) ≡ true = subst (λ j. Starts (members_text false (member j v ms)) ≡ true) ((bytes_eq-Decides name k).0 e) refl in
        absurd (true≢false (sym there ∙ h))

    other : (o : Ordering) → is_eq o ≡ false → match_ordering o (get_member name ms) (Some v) (get_member name ms) ≡ get_member name ms
    other Less e = refl
    other Equal e = absurd (true≢false e)
    other Greater e = refl

-- what is left of an object's text, behind some of its members, of which none is the content
abbrev pub IsLeft : Members → List ℕ → Type 0
IsLeft ms rest = (rest ≡ []) ⊎ ((left : Members) × (rest ≡ members_text false left) × (get_member name left ≡ get_member name ms))

pub left-next : (ms : Members) (rest after : List ℕ) (b : ℕ) → IsLeft ms rest → Starts rest ≡ false → left_from (outside 0) rest ≡ b ∷ after → IsLeft ms after
left-next ms rest after b (inl empty) starts is =
    let none : [] ≡ b ∷ after = ap (left_from (outside 0)) (sym empty) ∙ is in
    absurd (cc none)
left-next ms rest after b (inr (no_members, text, same)) starts is =
    let brace : 125 ∷ [] ≡ b ∷ after = ap (left_from (outside 0)) (sym text) ∙ is in
    inl (cc brace)
left-next ms rest after b (inr (member k v no_members, text, same)) starts is =
    let brace : 125 ∷ [] ≡ b ∷ after = sym (first-left k v no_members) ∙ ap (left_from (outside 0)) (sym text) ∙ is in
    inl (cc brace)
left-next ms rest after b (inr (member k v (member l w more), text, same)) starts is =
    let comma : 44 ∷ members_text false (member l w more) ≡ b ∷ after = sym (first-left k v (member l w more)) ∙ ap (left_from (outside 0)) (sym text) ∙ is in
    inr (member l w more, cc comma, sym (found-later k v (member l w more) (sym (ap Starts text) ∙ starts)) ∙ same)

pub left-found : (ms : Members) (rest content : List ℕ) → IsLeft ms rest → Starts rest ≡ true
    → content ++ left_from (outside 0) (drop (length content_key) rest) ≡ drop (length content_key) rest
    → (d : Data) × (get_member name ms ≡ Some d) × (content ≡ compact_text d)
left-found ms rest content (inl empty) starts is = absurd (true≢false (sym starts ∙ ap Starts empty))
left-found ms rest content (inr (no_members, text, same)) starts is = absurd (true≢false (sym starts ∙ ap Starts text))
left-found ms rest content (inr (member k v more, text, same)) starts is =
    let there = found-here k v more content (sym (ap Starts text) ∙ starts)
    (subst (λ r. content ++ left_from (outside 0) (drop (length content_key) r) ≡ drop (length content_key) r) text is) in
    (v, sym same ∙ there.0, there.1)

-- ---- the content of an event

-- a member's keys rise where those of all members do
member-rises : (k : List ℕ) (ms : Members) (d : Data) → KeysRiseInMembers ms → get_member k ms ≡ Some d → KeysRise d
member-rises k no_members d rise h = absurd (cc h)
member-rises k (member l v ms) d rise h = by (slice_cmp nat_cmp k l) (member-rises k ms d rise.1) h
  where
    by : (o : Ordering) → (get_member k ms ≡ Some d → KeysRise d) → match_ordering o (get_member k ms) (Some v) (get_member k ms) ≡ Some d → KeysRise d
    by Less more e = more e
    by Equal more e = let same : v ≡ d = cc e in subst KeysRise same rise.0
    by Greater more e = more e

pub content-is : (event : Data) (text content : List ℕ) → is_object event ≡ true → KeysRise event → text ≡ canonical_text event
    → ((ms : Members) → text ≡ compact_text (object ms) → (d : Data) × (get_member name ms ≡ Some d) × (content ≡ compact_text d))
    → content ≡ canonical_text (content_of event)
unfolding canonical_text
content-is null text content is rise same found = absurd (true≢false (sym is))
content-is (boolean b) text content is rise same found = absurd (true≢false (sym is))
content-is (number n) text content is rise same found = absurd (true≢false (sym is))
content-is (string s) text content is rise same found = absurd (true≢false (sym is))
content-is (array ds) text content is rise same found = absurd (true≢false (sym is))
content-is (object ms) text content is rise same found =
    let (d, there, shown) = found ms (same ∙ canon_same (object ms) rise) in
    shown ∙ sym (canon_same d (member-rises name ms d rise.1 there)) ∙ ap (λ o. value_text (unwrap_or o null)) (sym there)
