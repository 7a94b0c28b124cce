-- The members of an object whose keys come in order, as they are read: their text and their tokens are those before and one
-- member more.
use Rattle.std.proofs.Common.{◌≡◌, ℕ, ◌-◌, ◌<◌, Bool, true, false, ◌&&◌, List, [], ◌∷◌, ◌++◌, length}
use Rattle.std.proofs.Common.{Option, Some, None, Ordering, Less, Greater, nat_cmp, refl, sym, ap, ◌∙◌, append_assoc, append-nil, is_some, IsUtf8}
use Rattle.std.proofs.lemmas.Cmp.{nat_list_cmp_total}
use Rattle.std.proofs.lemmas.List.Folds.{list_all-append}
use Rattle.std.specs.Cmp.Lexicographic.{slice_cmp}
use Rattle.std.specs.List.{AllByRecursion, list_all}
use Rattle.std.specs.Ordering.{ordering_reverse}
use Rattle.json.specs.Json as json
use Rattle.json.proofs.Grammar.{value-begin_object}
use Rattle.json.specs.Json.{Parse, parse_map, read_key, members, value}
use Rattle.json.specs.Token.{Token}
use Rattle.json.specs.Print.{quoted}
use Rattle.json.specs.Tree.{json_tokens, members_tokens}
use Rattle.serde_json.specs.Data.{Data, object, Members, no_members, member, put}
use Rattle.serde_json.specs.Read.{of_json, of_members, converted}
use Rattle.serde_json.specs.Written.{compact_text, members_text, comma_if, outline, members_outline}
use Rattle.mx_canon.specs.Canonical.{is_canonical, is_exact, numbers, member_numbers}
use Rattle.mx_canon.specs.KeyOrder.{keys}
use Rattle.mx_event_reading.specs.InOrder.{IsAbove, IsAppended, ReadsCanonical, has_comma, key_text, open_text, open_tokens}
use Rattle.mx_body.proofs.BackLemmas.{canonical-compact}
use Rattle.mx_body.proofs.GrammarLemmas.{converted-object}
use Rattle.mx_body.proofs.MemberLemmas.{MembersRead, members_begin, members_more, members_over_all}

abbrev cmp : List ℕ → List ℕ → Ordering
cmp = slice_cmp nat_cmp

-- each key is below this one
abbrev pub AreBelow : List ℕ → Members → Type 0
AreBelow k ms = AllByRecursion (λ l. cmp l k ≡ Less) (keys ms)

pub above : (k l : List ℕ) → cmp l k ≡ Less → cmp k l ≡ Greater
above k l h = nat_list_cmp_total.antisymm k l ∙ ap ordering_reverse h

-- ---- one member more, whose key is above those before it

has_comma-true : (ms : Members) → has_comma true ms ≡ true
has_comma-true no_members = refl
has_comma-true (member k d ms) = refl

has_comma-put : (k : List ℕ) (d : Data) (ms : Members) → AreBelow k ms → has_comma false (put k d ms) ≡ true
has_comma-put k d no_members h = refl
has_comma-put k d (member l e ms) h = rw (above k l h.0) refl

below-put : (x k : List ℕ) (d : Data) (ms : Members) → cmp k x ≡ Less → AreBelow k ms → AreBelow x (put k d ms)
below-put x k d no_members less h = (less, tt)
below-put x k d (member l e ms) less h = rw (above k l h.0)
    (nat_list_cmp_total.trans l k x h.0 less, below-put x k d ms less h.1)

numbers-put : (k : List ℕ) (d : Data) (ms : Members) → AreBelow k ms
    → member_numbers (put k d ms) ≡ member_numbers ms ++ numbers d
numbers-put k d no_members h = append-nil (numbers d)
numbers-put k d (member l e ms) h = rw (above k l h.0) (ap (λ ns. numbers e ++ ns) (numbers-put k d ms h.1)
    ∙ sym (append_assoc (numbers e) (member_numbers ms) (numbers d)))

pub open_tokens-put : (k : List ℕ) (d : Data) (ms : Members) → AreBelow k ms
    → open_tokens (put k d ms) ≡ open_tokens ms ++ Token.key k ∷ json_tokens (outline d)
open_tokens-put k d no_members h = ap (λ ts. Token.key k ∷ ts) (append-nil (json_tokens (outline d)))
open_tokens-put k d (member l e ms) h =
    rw (above k l h.0) (ap (λ ts. Token.key l ∷ (json_tokens (outline e) ++ ts)) (open_tokens-put k d ms h.1)
    ∙ ap (λ ts. Token.key l ∷ ts)
    (sym (append_assoc (json_tokens (outline e)) (open_tokens ms) (Token.key k ∷ json_tokens (outline d)))))

pub open_text-put : (later : Bool) (k : List ℕ) (d : Data) (ms : Members) → AreBelow k ms
    → open_text later (put k d ms) ≡ open_text later ms ++ (key_text (has_comma later ms) k ++ compact_text d)
open_text-put later k d no_members h = ap (λ x. key_text later k ++ x) (append-nil (compact_text d))
open_text-put later k d (member l e ms) h =
    let one = key_text true k ++ compact_text d in
    rw (above k l h.0) (ap (λ x. key_text later l ++ (compact_text e ++ x)) (open_text-put true k d ms h.1
    ∙ ap (λ b. open_text true ms ++ (key_text b k ++ compact_text d)) (has_comma-true ms))
    ∙ grouped (key_text later l) (compact_text e) (open_text true ms) one)
  where
    grouped : (a b c x : List ℕ) → a ++ (b ++ (c ++ x)) ≡ (a ++ (b ++ c)) ++ x
    grouped a b c x = simp append_assoc

-- ---- the end

pub open_tokens-end : (ms : Members) → members_tokens (members_outline ms) ≡ open_tokens ms ++ Token.end_object ∷ []
open_tokens-end no_members = refl
open_tokens-end (member k d ms) =
    ap (λ ts. Token.key k ∷ (json_tokens (outline d) ++ ts)) (open_tokens-end ms)
    ∙ ap (λ ts. Token.key k ∷ ts) (sym (append_assoc (json_tokens (outline d)) (open_tokens ms) (Token.end_object ∷ [])))

pub open_text-end : (later : Bool) (ms : Members) → members_text later ms ≡ open_text later ms ++ 125 ∷ []
open_text-end later no_members = refl
open_text-end later (member k d ms) =
    ap (λ x. comma_if later ++ (quoted k ++ 58 ∷ (compact_text d ++ x))) (open_text-end true ms)
    ∙ grouped (comma_if later) (quoted k) (compact_text d) (open_text true ms)
  where
    grouped : (a q b c : List ℕ) → a ++ (q ++ 58 ∷ (b ++ (c ++ 125 ∷ []))) ≡ ((a ++ (q ++ 58 ∷ [])) ++ (b ++ c)) ++ 125 ∷ []
    grouped a q b c = simp append_assoc

-- the same, behind what a writer was given before
pub tokens_more : (before : List Token) (k : List ℕ) (d : Data) (ms : Members) → AreBelow k ms
    → ((before ++ open_tokens ms) ++ Token.key k ∷ []) ++ json_tokens (outline d) ≡ before ++ open_tokens (put k d ms)
tokens_more before k d ms h = grouped before (open_tokens ms) (Token.key k) (json_tokens (outline d))
    ∙ ap (λ ts. before ++ ts) (sym (open_tokens-put k d ms h))
  where
    grouped : (a b : List Token) (t : Token) (x : List Token) → ((a ++ b) ++ t ∷ []) ++ x ≡ a ++ (b ++ t ∷ x)
    grouped a b t x = simp append_assoc

pub tokens_end : (before : List Token) (ms : Members)
    → (before ++ open_tokens ms) ++ Token.end_object ∷ [] ≡ before ++ members_tokens (members_outline ms)
tokens_end before ms = append_assoc before (open_tokens ms) (Token.end_object ∷ [])
    ∙ ap (λ ts. before ++ ts) (sym (open_tokens-end ms))

-- ---- as they are read

-- the same reading, in other words
pub canonical-same : (d : Data) (x y : Option (Data × List Token)) (r : List Token) → y ≡ x → ReadsCanonical d x r
    → ReadsCanonical d y r
canonical-same d x y r same h = record { read = same ∙ h.read; readable = h.readable; canonical = h.canonical }

-- the tokens from `first` to `now` are the members `old`, of which `last` is the last key
pub record MembersInOrder (p : Parse json.Json) (first now : List Token) (last : Option (List ℕ))
    (old : Members) : Type 0 where
  pub read : MembersRead p first now old
  pub canonical : is_canonical (object old) ≡ true
  pub below : (k : List ℕ) → IsAbove k last → AreBelow k old
  pub comma : is_some last ≡ has_comma false old

module _ (p : Parse json.Json) where
  pub order_begin : (ts : List Token) → MembersInOrder p ts ts None no_members
  order_begin ts = record { read = members_begin p ts; canonical = refl; below = λ k h. tt; comma = refl }

  module _ (first now : List Token) (last : Option (List ℕ)) (old : Members) (h : MembersInOrder p first now last old) where
    pub order_more : (s r : List Token) (k : List ℕ) (d : Data) → read_key now ≡ Some (Some k, s) → IsAbove k last
        → IsUtf8 k → ReadsCanonical d (converted of_json (p s)) r → length r < length s
        → MembersInOrder p first r (Some k) (put k d old)
    order_more s r k d named higher text done less =
        let below = h.below k higher in
        record {
          read = members_more p first now old h.read s r k d named done.read text done.readable less;
          canonical = ap (list_all is_exact) (numbers-put k d old below)
              ∙ list_all-append is_exact (member_numbers old) (numbers d)
              ∙ ap (λ b. b && list_all is_exact (numbers d)) h.canonical ∙ done.canonical;
          below = λ x lower. below-put x k d old lower below;
          comma = sym (has_comma-put k d old below);
        }

    pub order_end : (r : List Token) → read_key now ≡ Some (None, r)
        → ReadsCanonical (object old)
        (parse_map object (converted (λ ms. of_members ms no_members) (members p (length first) first))) r
    order_end r e = record {
      read = members_over_all p first now old h.read r e;
      readable = h.read.readable;
      canonical = h.canonical;
    }

-- ---- with their text behind what stood before the object

pub record MembersAppended (p : Parse json.Json) (first now : List Token) (last : Option (List ℕ)) (old : Members)
    (before text : List ℕ) : Type 0 where
  pub order : MembersInOrder p first now last old
  pub text_is : text ≡ before ++ 123 ∷ open_text false old

module _ (p : Parse json.Json) (before : List ℕ) where
  pub appended_begin : (ts : List Token) → MembersAppended p ts ts None no_members before (before ++ 123 ∷ [])
  appended_begin ts = record { order = order_begin p ts; text_is = refl }

  module _ (first now : List Token) (last : Option (List ℕ)) (old : Members) (text : List ℕ)
      (h : MembersAppended p first now last old before text) where
    pub appended_more : (s r : List Token) (k : List ℕ) (d : Data) (after : List ℕ) → read_key now ≡ Some (Some k, s)
        → IsAbove k last → IsUtf8 k
        → IsAppended d (converted of_json (p s)) r (text ++ key_text (is_some last) k) after → length r < length s
        → MembersAppended p first r (Some k) (put k d old) before after
    appended_more s r k d after named higher utf8 done less =
        let opened = open_text false old in
        record {
          order = order_more p first now last old h.order s r k d named higher utf8 done.0 less;
          text_is = done.1 ∙ ap (λ x. (text ++ key_text (is_some last) k) ++ x) (canonical-compact d done.0.readable)
              ∙ ap (λ b. (text ++ key_text b k) ++ compact_text d) h.order.comma
              ∙ ap (λ x. (x ++ key_text (has_comma false old) k) ++ compact_text d) h.text_is
              ∙ grouped before opened (key_text (has_comma false old) k) (compact_text d)
              ∙ ap (λ x. before ++ 123 ∷ x) (sym (open_text-put false k d old (h.order.below k higher)));
        }
      where
        grouped : (a b c x : List ℕ) → ((a ++ 123 ∷ b) ++ c) ++ x ≡ a ++ 123 ∷ (b ++ (c ++ x))
        grouped a b c x = simp append_assoc

    pub appended_end : (r : List Token) → read_key now ≡ Some (None, r)
        → IsAppended (object old)
        (parse_map object (converted (λ ms. of_members ms no_members) (members p (length first) first))) r before
        (text ++ 125 ∷ [])
    appended_end r e =
        let done = order_end p first now last old h.order r e in (
          done,
          ap (λ x. x ++ 125 ∷ []) h.text_is ∙ append_assoc before (123 ∷ open_text false old) (125 ∷ [])
              ∙ ap (λ x. before ++ 123 ∷ x) (sym (open_text-end false old))
              ∙ ap (λ x. before ++ x) (sym (canonical-compact (object old) done.readable)),
        )

-- an object that was read from its opening brace on is the next value of a reader
pub object_appended : (depth : ℕ) (ts r : List Token) (old : Members) (before after : List ℕ) → 0 < depth
    → IsAppended (object old)
    (parse_map object (converted (λ ms. of_members ms no_members) (members (value (depth - 1)) (length ts) ts)))
    r before after
    → IsAppended (object old) (converted of_json (value depth (Token.begin_object ∷ ts))) r before after
object_appended depth ts r old before after some h =
    let opened = ap (converted of_json) (value-begin_object depth ts some)
    ∙ converted-object (members (value (depth - 1)) (length ts) ts) in
    (canonical-same (object old) _ _ r opened h.0, h.1)
