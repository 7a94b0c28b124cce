-- Objects of three texts, and their tokens.
use Rattle.std.proofs.Common.{◌≡◌, ℕ, Bool, Ordering, Less, Equal, Greater, nat_cmp, true, false, if◌then◌else◌, List, [], ◌∷◌, bytes_eq, true≢false, refl, sym, ap, ◌∙◌, IsUtf8}
use Rattle.std.specs.Prelude.{Option, Some, None, option_and_then}
use Rattle.std.specs.List.{list_all}
use Rattle.std.specs.Ordering.{match_ordering}
use Rattle.std.specs.Cmp.Lexicographic.{slice_cmp}
use Rattle.std.proofs.lemmas.Slice.Eq.{bytes_eq-Decides}
use Rattle.json.specs.Token.{Token, begin_object, end_object, key, string}
use Rattle.json.specs.Lex.{tokens}
use Rattle.json.specs.Json as json
use Rattle.serde_json.specs.Data.{Data, object, string as text, Members, no_members, member, put}
use Rattle.serde_json.specs.Find.{get_member, as_str}
use Rattle.serde_json.specs.Read.{of_json, max_depth}
use Rattle.serde_json.proofs.Views.{get_member-put, get_member-put_other}
use Rattle.mx_redact.specs.Fields.{keys_of}
use Rattle.mx_pdu.proofs.FormatLemmas.{and-left, and-right}
use Rattle.mx_requests.specs.Requests.{json_of}
use Rattle.mx_requests.proofs.JsonLemmas.{has_json}

-- the tokens of an object of three texts
abbrev pub three_tokens : (a x b y c z : List ℕ) → List Token
three_tokens a x b y c z = begin_object ∷ key a ∷ string x ∷ key b ∷ string y ∷ key c ∷ string z ∷ end_object ∷ []

abbrev by_tokens : List Token → Option Data
by_tokens ts = option_and_then of_json (option_and_then (λ p. json.if_last p.0 p.1) (json.value max_depth ts))

value_of_three : (a x b y c z : List ℕ) → by_tokens (three_tokens a x b y c z) ≡ Some (object (put c (text z) (put b (text y) (put a (text x) no_members))))
unfolding json.value json.items json.members
value_of_three a x b y c z = refl

pub json_of_three : (line a x b y c z : List ℕ) → IsUtf8 line → tokens line ≡ three_tokens a x b y c z
    → json_of line ≡ Some (object (put c (text z) (put b (text y) (put a (text x) no_members))))
json_of_three line a x b y c z utf8 e =
    has_json line (object (put c (text z) (put b (text y) (put a (text x) no_members)))) utf8 (ap by_tokens e ∙ value_of_three a x b y c z)

-- the text at a name, where a text was put last
abbrev text_in : List ℕ → Members → Option (List ℕ)
text_in name ms = option_and_then as_str (get_member name ms)

pub text-put : (name k s : List ℕ) (ms : Members) → text_in name (put k (text s) ms) ≡ (if bytes_eq k name then Some s else text_in name ms)
text-put name k s ms = by (bytes_eq k name) refl
  where
    by : (b : Bool) → bytes_eq k name ≡ b → text_in name (put k (text s) ms) ≡ (if b then Some s else text_in name ms)
    by true is =
        let same : k ≡ name = (bytes_eq-Decides k name).0 is in
        ap (λ n. text_in n (put k (text s) ms)) (sym same) ∙ ap (option_and_then as_str) (get_member-put k (text s) ms)
    by false is =
        let other = λ (h : name ≡ k). absurd (true≢false (sym ((bytes_eq-Decides k name).1 (sym h)) ∙ is)) in
        ap (option_and_then as_str) (get_member-put_other name k (text s) ms other)

pub text_of_three : (name a x b y c z : List ℕ) → text_in name (put c (text z) (put b (text y) (put a (text x) no_members)))
    ≡ (if bytes_eq c name then Some z else (if bytes_eq b name then Some y else (if bytes_eq a name then Some x else None)))
text_of_three name a x b y c z =
    text-put name c z (put b (text y) (put a (text x) no_members))
    ∙ ap (λ o. if bytes_eq c name then Some z else o) (text-put name b y (put a (text x) no_members)
    ∙ ap (λ o. if bytes_eq b name then Some y else o) (text-put name a x no_members))

-- ---- keys that all pass a test

passes-put : (test : List ℕ → Bool) (o : Ordering) (k l : List ℕ) (d e : Data) (ms : Members) → test k ≡ true → test l ≡ true
    → list_all test (keys_of ms) ≡ true → list_all test (keys_of (put k d ms)) ≡ true
    → list_all test (keys_of (match_ordering o (member k d (member l e ms)) (member l d ms) (member l e (put k d ms)))) ≡ true
passes-put test Less k l d e ms first next rest later = rw (first, next) rest
passes-put test Equal k l d e ms first next rest later = rw next rest
passes-put test Greater k l d e ms first next rest later = rw next later

pub keys-put : (test : List ℕ → Bool) (k : List ℕ) (d : Data) (ms : Members) → test k ≡ true → list_all test (keys_of ms) ≡ true → list_all test (keys_of (put k d ms)) ≡ true
keys-put test k d no_members first all = rw first refl
keys-put test k d (member l e ms) first all =
    let next = and-left (test l) (list_all test (keys_of ms)) all in
    let rest = and-right (test l) (list_all test (keys_of ms)) all in
    passes-put test (slice_cmp nat_cmp k l) k l d e ms first next rest (keys-put test k d ms first rest)

pub keys_of_three : (test : List ℕ → Bool) (a b c : List ℕ) (x y z : Data) → test a ≡ true → test b ≡ true → test c ≡ true
    → list_all test (keys_of (put c z (put b y (put a x no_members)))) ≡ true
keys_of_three test a b c x y z first second third =
    keys-put test c z (put b y (put a x no_members)) third (keys-put test b y (put a x no_members) second (keys-put test a x no_members first refl))
