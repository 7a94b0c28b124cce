-- What a well-formed event is.
use Rattle.std.proofs.Common.{◌≡◌, ℕ, zero, suc, ◌<◌, get_or, lit<, List, [], ◌∷◌, length, Bool, true, false, not, ◌&&◌, refl, sym, ap, ◌∙◌, arith, Option, Some, None, IsTrue, is_none, option_and_then, true≢false}
use Rattle.std.specs.Prelude.{codes, nat_lt, nat_le, pos, unwrap_or}
use Rattle.std.specs.List.{list_all}
use Rattle.std.proofs.lemmas.List.Folds.{list_all-append}
use Rattle.std.proofs.lemmas.Bool.Decides.{nat_tests}
use Rattle.std.specs.declared.cmp.Ordering.{Ordering}
use Rattle.std.specs.declared.cmp.Ordering.TheVariants.{Less, Equal, Greater}
use Rattle.std.specs.Ordering.{match_ordering, nat_cmp}
use Rattle.std.specs.Cmp.Lexicographic.{slice_cmp}
use Rattle.serde_json.specs.Data.{Num, unsigned, negative, float, Data, null, boolean, number, string, array, object, Members, no_members, member}
use Rattle.serde_json.specs.Find.{get, get_member, as_object, as_number, as_i64, as_integer}
use Rattle.mx_canon.specs.Canonical.{is_canonical, is_exact, numbers, member_numbers, canonical_text, largest}
use Rattle.mx_ident.specs.Identifier.{refuse_if}
use Rattle.mx_redact.specs.Fields.{field, is_object, is_some_and, is_none_or}
use Rattle.mx_pdu.specs.Format.{is_well_formed, format_error, has_fields, is_within_limits, longest_text, Field, required_fields, limits, is_string, has_readable_nesting}
use Rattle.mx_pdu.specs.Event.{timestamp_of}

-- ---- the five parts of the format

pub record IsFormed (d : Data) : Type 0 where
  pub has_object : is_object d ≡ true
  pub canonical : is_canonical d ≡ true
  pub short : nat_lt longest_text (length (canonical_text d)) ≡ false
  pub fields : has_fields d ≡ true
  pub limits : is_within_limits d ≡ true

pub refuse_if-none : {E : Type 0} (b : Bool) (error : E) (rest : Option E) → is_none (refuse_if b error rest) ≡ true → (b ≡ false) × (is_none rest ≡ true)
refuse_if-none true error rest h = absurd (true≢false (sym h))
refuse_if-none false error rest h = (refl, h)

pub not-false : (b : Bool) → not b ≡ false → b ≡ true
not-false true h = refl
not-false false h = absurd (true≢false h)

pub formed : (d : Data) → IsTrue (is_well_formed d) → IsFormed d
unfolding is_well_formed format_error
formed d h =
    let one = refuse_if-none (not (is_object d)) _ _ h in
    let two = refuse_if-none (not (is_canonical d)) _ _ one.1 in
    let three = refuse_if-none (nat_lt longest_text (length (canonical_text d))) _ _ two.1 in
    let four = refuse_if-none (not (has_fields d)) _ _ three.1 in
    let five = refuse_if-none (not (is_within_limits d)) _ _ four.1 in
    record {
      has_object = not-false (is_object d) one.0;
      canonical = not-false (is_canonical d) two.0;
      short = three.0;
      fields = not-false (has_fields d) four.0;
      limits = not-false (is_within_limits d) five.0;
    }

-- ---- each field and each limit by its place

pub and-left : (a b : Bool) → (a && b) ≡ true → a ≡ true
and-left true b h = refl
and-left false b h = h

pub and-right : (a b : Bool) → (a && b) ≡ true → b ≡ true
and-right true b h = h
and-right false b h = absurd (true≢false (sym h))

pub and-both : (a b : Bool) → a ≡ true → b ≡ true → (a && b) ≡ true
and-both true b h k = k
and-both false b h k = absurd (true≢false (sym h))

nth-all : {X : Type 0} (test : X → Bool) (xs : List X) (i : ℕ) (x : X) → i < length xs → list_all test xs ≡ true → test (get_or xs i x) ≡ true
nth-all test [] i x h all = absurd (omega arith)
nth-all test (y ∷ ys) zero x h all = and-left _ _ all
nth-all test (y ∷ ys) (suc i) x h all = nth-all test ys i x (omega arith) (and-right _ _ all)

abbrev pub nth : List Field → ℕ → Field
nth fs i = get_or fs i ([], is_string)

abbrev HasField : Data → Field → Bool
HasField d f = is_some_and f.1 (field f.0 d)

abbrev KeepsLimit : Data → Field → Bool
KeepsLimit d f = is_none_or f.1 (field f.0 d)

pub required-at : (d : Data) (i : ℕ) → IsTrue (is_well_formed d) → i < 10 → is_some_and (nth required_fields i).1 (field (nth required_fields i).0 d) ≡ true
required-at d i h low = nth-all (HasField d) required_fields i ([], is_string) low (and-left _ _ (formed d h).fields)

pub limit-at : (d : Data) (i : ℕ) → IsTrue (is_well_formed d) → i < 7 → is_none_or (nth limits i).1 (field (nth limits i).0 d) ≡ true
limit-at d i h low = nth-all (KeepsLimit d) limits i ([], is_string) low (and-left _ _ (formed d h).limits)

pub nesting-fits : (d : Data) → IsTrue (is_well_formed d) → has_readable_nesting d ≡ true
nesting-fits d h = and-right _ _ (formed d h).limits

-- ---- the numbers of a canonical object

one_of : (o : Ordering) (e : Data) (rest : Option Data) → is_canonical e ≡ true → is_none_or is_canonical rest ≡ true
    → is_none_or is_canonical (match_ordering o rest (Some e) rest) ≡ true
one_of Less e rest here later = later
one_of Equal e rest here later = here
one_of Greater e rest here later = later

-- a member's value is as canonical as the whole
pub get_member-canonical : (k : List ℕ) (ms : Members) → list_all is_exact (member_numbers ms) ≡ true → is_none_or is_canonical (get_member k ms) ≡ true
get_member-canonical k no_members h = refl
get_member-canonical k (member l e ms) h =
    let both : (is_canonical e && list_all is_exact (member_numbers ms)) ≡ true = sym (list_all-append is_exact (numbers e) (member_numbers ms)) ∙ h in
    one_of (slice_cmp nat_cmp k l) e (get_member k ms) (and-left _ _ both) (get_member-canonical k ms (and-right _ _ both))

pub get-canonical : (k : List ℕ) (d : Data) → is_canonical d ≡ true → is_none_or is_canonical (get k d) ≡ true
get-canonical k null h = refl
get-canonical k (boolean b) h = refl
get-canonical k (number n) h = refl
get-canonical k (string s) h = refl
get-canonical k (array ds) h = refl
get-canonical k (object ms) h = get_member-canonical k ms h

exact_fits : (n : ℕ) → nat_le n largest ≡ true → as_i64 (unsigned n) ≡ as_integer (unsigned n)
exact_fits n h = grind (arith, nat_tests)

-- an exact number is a 64-bit integer
pub as_i64-exact : (n : Num) → is_exact n ≡ true → as_i64 n ≡ as_integer n
as_i64-exact (unsigned n) h = exact_fits n h
as_i64-exact (negative z) h = refl
as_i64-exact (float x) h = refl

pub as_i64-canonical : (o : Option Data) → is_none_or is_canonical o ≡ true
    → option_and_then as_i64 (option_and_then as_number o) ≡ option_and_then as_integer (option_and_then as_number o)
as_i64-canonical None h = refl
as_i64-canonical (Some null) h = refl
as_i64-canonical (Some (boolean b)) h = refl
as_i64-canonical (Some (number n)) h = as_i64-exact n (and-left _ _ h)
as_i64-canonical (Some (string s)) h = refl
as_i64-canonical (Some (array ds)) h = refl
as_i64-canonical (Some (object ms)) h = refl

-- ---- the content

pub object-content : (o : Option Data) (ms : Members) → option_and_then as_object o ≡ Some ms → object ms ≡ unwrap_or o null
object-content None ms h = cc
object-content (Some null) ms h = cc
object-content (Some (boolean b)) ms h = cc
object-content (Some (number n)) ms h = cc
object-content (Some (string s)) ms h = cc
object-content (Some (array ds)) ms h = cc
object-content (Some (object ns)) ms h = cc

pub object-there : (o : Option Data) → is_some_and is_object o ≡ true → option_and_then as_object o ≡ None → ⊥
object-there None h none = true≢false (sym h)
object-there (Some null) h none = true≢false (sym h)
object-there (Some (boolean b)) h none = true≢false (sym h)
object-there (Some (number n)) h none = true≢false (sym h)
object-there (Some (string s)) h none = true≢false (sym h)
object-there (Some (array ds)) h none = true≢false (sym h)
object-there (Some (object ns)) h none = cc

pub content-there : (d : Data) → IsTrue (is_well_formed d) → option_and_then as_object (field (codes "content") d) ≡ None → ⊥
content-there d h none = object-there (field (codes "content") d) (required-at d 1 h (lit< tt)) none

pub timestamp-is : (d : Data) → IsTrue (is_well_formed d)
    → unwrap_or (option_and_then as_i64 (option_and_then as_number (field (codes "origin_server_ts") d))) (pos 0) ≡ timestamp_of d
timestamp-is d h =
    ap (λ o. unwrap_or o (pos 0)) (as_i64-canonical (field (codes "origin_server_ts") d) (get-canonical (codes "origin_server_ts") d (formed d h).canonical))

-- ---- what was tested

pub formed-from-none : (d : Data) → None ≡ format_error d → IsTrue (is_well_formed d)
unfolding is_well_formed
formed-from-none d h = sym (ap is_none h)

pub object-of : (d : Data) (ms : Members) → Some ms ≡ as_object d → d ≡ object ms
object-of null ms h = cc
object-of (boolean b) ms h = cc
object-of (number n) ms h = cc
object-of (string s) ms h = cc
object-of (array ds) ms h = cc
object-of (object ns) ms h = cc

pub object-is : (d : Data) → IsTrue (is_well_formed d) → None ≡ as_object d → ⊥
object-is d h none = object-there (Some d) (formed d h).has_object (sym none)
