-- The items of an array whose values are canonical, as they are read: their tokens, and those of an array of strings.
use Rattle.std.proofs.Common.{◌≡◌, ℕ, ◌<◌, Bool, true, false, ◌&&◌, List, [], ◌∷◌, ◌++◌, length, Some, None, refl, sym, ap, ◌∙◌, append_assoc, subst}
use Rattle.std.proofs.lemmas.List.Folds.{list_all-append}
use Rattle.std.specs.List.{list_all}
use Rattle.json.specs.Json as json
use Rattle.json.specs.Json.{Parse, parse_map, after_end_array, items, value}
use Rattle.json.specs.Print.{quoted}
use Rattle.json.specs.Token.{Token}
use Rattle.json.specs.Tree.{json_tokens, items_tokens}
use Rattle.serde_json.specs.Data.{Data, array, string, Items, no_items, item}
use Rattle.serde_json.specs.Read.{of_json, of_items, converted}
use Rattle.serde_json.specs.Written.{items_text, comma_if, outline, items_outline}
use Rattle.mx_canon.specs.Canonical.{is_exact, numbers, item_numbers}
use Rattle.mx_event_reading.specs.InOrder.{IsAppended, ReadsCanonical, strings}
use Rattle.mx_body.proofs.BackLemmas.{canonical-compact}
use Rattle.mx_body.proofs.ItemLemmas.{ItemsRead, items_begin, items_more, items_over_all}

-- the tokens from `first` to `now` are the items that `front` puts before others, all canonical
pub record ItemsInOrder (p : Parse json.Json) (first now : List Token) (front : Items → Items) : Type 0 where
  pub read : ItemsRead p first now front
  pub canonical : (rest : Items) → list_all is_exact (item_numbers (front rest)) ≡ list_all is_exact (item_numbers rest)

module _ (p : Parse json.Json) where
  pub array_begin : (ts : List Token) → ItemsInOrder p ts ts (λ rest. rest)
  array_begin ts = record { read = items_begin p ts; canonical = λ rest. refl }

  pub array_more : (first now r : List Token) (front : Items → Items) (d : Data) → ItemsInOrder p first now front
      → after_end_array now ≡ None → ReadsCanonical d (converted of_json (p now)) r → length r < length now
      → ItemsInOrder p first r (λ rest. front (item d rest))
  array_more first now r front d h going done less = record {
    read = items_more p first now r front d h.read going done.read done.readable less;
    canonical = λ rest. h.canonical (item d rest) ∙ list_all-append is_exact (numbers d) (item_numbers rest)
        ∙ ap (λ b. b && list_all is_exact (item_numbers rest)) done.canonical;
  }

  pub array_end : (first now r : List Token) (front : Items → Items) → ItemsInOrder p first now front
      → after_end_array now ≡ Some r
      → ReadsCanonical (array (front no_items)) (parse_map array (converted of_items (items p (length first) first))) r
  array_end first now r front h e = record {
    read = items_over_all p first now r front h.read e;
    readable = h.read.readable no_items tt;
    canonical = h.canonical no_items;
  }

-- ---- the tokens

-- what was given for the items so far, and what is left
abbrev pub AreItemTokens : List Token → (Items → Items) → List Token → Type 0
AreItemTokens before front tokens =
    (rest : Items) → before ++ items_tokens (items_outline (front rest)) ≡ tokens ++ items_tokens (items_outline rest)

pub item_tokens_more : (before tokens : List Token) (front : Items → Items) (d : Data) → AreItemTokens before front tokens
    → AreItemTokens before (λ rest. front (item d rest)) (tokens ++ json_tokens (outline d))
item_tokens_more before tokens front d h = λ rest. h (item d rest)
    ∙ sym (append_assoc tokens (json_tokens (outline d)) (items_tokens (items_outline rest)))

-- ---- strings

abbrev strings_before : List (List ℕ) → Items → Items
strings_before [] rest = rest
strings_before (s ∷ ss) rest = item (string s) (strings_before ss rest)

strings_push : (ss : List (List ℕ)) (s : List ℕ) (rest : Items)
    → strings_before ss (item (string s) rest) ≡ strings_before (ss ++ s ∷ []) rest
strings_push [] s rest = refl
strings_push (t ∷ ss) s rest = ap (item (string t)) (strings_push ss s rest)

strings_all : (ss : List (List ℕ)) → strings_before ss no_items ≡ strings ss
strings_all [] = refl
strings_all (s ∷ ss) = ap (item (string s)) (strings_all ss)

-- the tokens from `first` to `now` are these strings, and their text was put behind what stood before it
pub record StringsRead (first now : List Token) (ss : List (List ℕ)) (later : Bool) (before text : List ℕ) : Type 0 where
  pub front : Items → Items
  pub order : (depth : ℕ) → ItemsInOrder (value depth) first now front
  pub strings_are : (rest : Items) → front rest ≡ strings_before ss rest
  pub text_is : (rest : Items) → before ++ items_text false (front rest) ≡ text ++ items_text later rest

pub strings_begin : (ts : List Token) (before : List ℕ) → StringsRead ts ts [] false before before
strings_begin ts before = record {
  front = λ rest. rest;
  order = λ depth. array_begin
      (value depth) ts;
  strings_are = λ rest. refl;
  text_is = λ rest. refl;
}

module _ (first now : List Token) (ss : List (List ℕ)) (later : Bool) (before text : List ℕ)
    (h : StringsRead first now ss later before text) where
  pub strings_more : (r : List Token) (s after : List ℕ) → after_end_array now ≡ None
      → ((depth : ℕ) → IsAppended (string s) (converted of_json (value depth now)) r (text ++ comma_if later) after)
      → length r < length now
      → StringsRead first r (ss ++ s ∷ []) true before after
  strings_more r s after going done less =
      let appended : after ≡ (text ++ comma_if later) ++ quoted s = (done 0).1
      ∙ ap (λ x. (text ++ comma_if later) ++ x) (canonical-compact (string s) (done 0).0.readable) in
      record {
        front = λ rest. h.front (item (string s) rest);
        order = λ depth. array_more (value depth) first now r h.front (string s) (h.order depth) going (done depth).0 less;
        strings_are = λ rest. h.strings_are (item (string s) rest) ∙ strings_push ss s rest;
        text_is = λ rest. h.text_is (item (string s) rest)
            ∙ grouped text (comma_if later) (quoted s) (items_text true rest)
            ∙ ap (λ x. x ++ items_text true rest) (sym appended);
      }
    where
      grouped : (a b c x : List ℕ) → a ++ (b ++ (c ++ x)) ≡ ((a ++ b) ++ c) ++ x
      grouped a b c x = simp append_assoc

  pub strings_end : (r : List Token) (depth : ℕ) → after_end_array now ≡ Some r
      → ReadsCanonical (array (strings ss))
      (parse_map array (converted of_items (items (value depth) (length first) first))) r
  strings_end r depth e =
      subst (λ ds. ReadsCanonical (array ds)
      (parse_map array (converted of_items (items (value depth) (length first) first))) r) (h.strings_are no_items
      ∙ strings_all ss) (array_end (value depth) first now r h.front (h.order depth) e)

  pub strings_text : text ++ 93 ∷ [] ≡ before ++ items_text false (strings ss)
  strings_text = sym (h.text_is no_items)
      ∙ ap (λ ds. before ++ items_text false ds) (h.strings_are no_items ∙ strings_all ss)
