-- The items of an array, as they are read.
use Rattle.std.proofs.Common.{◌≡◌, ℕ, ◌-◌, ◌<◌, ◌≤◌, nat_le, Bool, true, false, ◌&&◌, List, [], ◌∷◌, ◌++◌, length, Option, Some, None, refl, sym, ap, ◌∙◌, arith, length-append, append_assoc}
use Rattle.std.specs.List.{list_all}
use Rattle.std.proofs.lemmas.List.Folds.{list_all-append}
use Rattle.json.specs.Token.{Token}
use Rattle.json.specs.Json as json
use Rattle.json.specs.Json.{Parse, parse_map, after_end_array, items}
use Rattle.serde_json.specs.Data.{Data, array, Items, no_items, item}
use Rattle.serde_json.specs.Read.{of_json, of_items, converted}
use Rattle.serde_json.specs.Written.{compact_text, items_text, comma_if}
use Rattle.mx_body.proofs.GrammarLemmas.{item_read, item_refused, items_over, none_before}
use Rattle.mx_canon.specs.Canonical.{is_canonical, is_exact, numbers, item_numbers}
use Rattle.mx_body.specs.Pieces.{IsPieceOf, ReadsPiece, cut, closed, with_item, room_after}
use Rattle.mx_body.specs.Readable.{IsReadable, AreReadable}
use Rattle.mx_body.proofs.PieceLemmas.{too_long}

-- the tokens from `first` to `now` are the items that `front` puts before others
pub record ItemsRead (p : Parse json.Json) (first now : List Token) (front : Items → Items) : Type 0 where
  pub turns : ℕ
  pub enough : length now ≤ turns
  pub shorter : length now ≤ length first
  pub same : converted of_items (items p (length first) first) ≡ parse_map front (converted of_items (items p turns now))
  pub readable : (rest : Items) → AreReadable rest → AreReadable (front rest)

-- the text of those items, whatever follows them
abbrev pub AreTexts : ℕ → (Items → Items) → Bool → Option (List ℕ) → Type 0
AreTexts room front later None =
    (rest : Items) → is_canonical (array (front rest)) ≡ true → room < length (compact_text (array (front rest)))
AreTexts room front later (Some text) =
    (rest : Items) → (is_canonical (array (front rest)) ≡ list_all is_exact (item_numbers rest)) × (compact_text (array (front rest)) ≡ text ++ items_text later rest)

after_more : (front : Items → Items) (d : Data) (o : Option (Items × List Token)) → parse_map front (parse_map (item d) o) ≡ parse_map (λ rest. front (item d rest)) o
after_more front d None = refl
after_more front d (Some p) = refl

module _ (p : Parse json.Json) where
  pub items_begin : (ts : List Token) → ItemsRead p ts ts (λ rest. rest)
  items_begin ts = record {
    turns = length ts;
    enough = omega arith;
    shorter = omega arith;
    same = none_before (converted of_items (items p (length ts) ts));
    readable = λ rest h. h;
  }

  pub items_more : (first now r : List Token) (front : Items → Items) (d : Data) → ItemsRead p first now front → after_end_array now ≡ None → converted of_json (p now) ≡ Some (d, r) → IsReadable d → length r < length now
      → ItemsRead p first r (λ rest. front (item d rest))
  items_more first now r front d h going e readable less = record {
    turns = h.turns - 1;
    enough = omega (arith, h.enough);
    shorter = omega (arith, h.shorter);
    same = h.same ∙ ap (parse_map front) (item_read p h.turns now r d (omega (arith, h.enough)) going e) ∙ after_more front d _;
    readable = λ rest k. h.readable (item d rest) (readable, k);
  }

  pub items_fail : (first now : List Token) (front : Items → Items) → ItemsRead p first now front → after_end_array now ≡ None → converted of_json (p now) ≡ None
      → parse_map array (converted of_items (items p (length first) first)) ≡ None
  items_fail first now front h going e = ap (parse_map array) (h.same ∙ ap (parse_map front) (item_refused p h.turns now going e))

  pub items_over_all : (first now r : List Token) (front : Items → Items) → ItemsRead p first now front → after_end_array now ≡ Some r → parse_map array (converted of_items (items p (length first) first)) ≡ Some (array (front no_items), r)
  items_over_all first now r front h e = ap (parse_map array) (h.same ∙ ap (parse_map front) (items_over p h.turns now r h.enough e))

  text_end : (room : ℕ) (front : Items → Items) (later : Bool) (text : Option (List ℕ)) → AreTexts room front later text → IsPieceOf room (array (front no_items)) (closed text)
  text_end room front later None h = h no_items
  text_end room front later (Some t) h = let w = h no_items in (w.0, sym w.1)

  pub items_end : (room : ℕ) (first now r : List Token) (front : Items → Items) (later : Bool) (text : Option (List ℕ)) → ItemsRead p first now front → AreTexts room front later text → after_end_array now ≡ Some r
      → ReadsPiece room (parse_map array (converted of_items (items p (length first) first))) r (closed text)
  items_end room first now r front later text h texts e = record {
    value = array (front no_items);
    read = items_over_all first now r front h e;
    readable = h.readable no_items tt;
    text = text_end room front later text texts;
  }

-- ---- the text

begun : (room : ℕ) (b : Bool) → nat_le 1 room ≡ b → AreTexts room (λ rest. rest) false (cut room (91 ∷ []))
begun room true is = rw is (λ rest. (refl, refl))
begun room false is = rw is (λ rest c. omega (arith, too_long room 1 is))

pub texts_begin : (room : ℕ) → AreTexts room (λ rest. rest) false (cut room (91 ∷ []))
texts_begin room = begun room (nat_le 1 room) refl

first_true : (a b : Bool) → (a && b) ≡ true → a ≡ true
first_true true b h = refl
first_true false b h = h

whole : (t c i r : List ℕ) → t ++ (c ++ (i ++ r)) ≡ ((t ++ c) ++ i) ++ r
whole t c i r = simp append_assoc

module _ (room : ℕ) (front : Items → Items) (later : Bool) (d : Data) where
  no_text : (t : List ℕ) → AreTexts room front later (Some t) → IsPieceOf (room - length t) d None → AreTexts room (λ rest. front (item d rest)) true None
  no_text t h none = λ rest c.
      let w = h (item d rest) in
      let all : list_all is_exact (numbers d ++ item_numbers rest) ≡ true = sym w.0 ∙ c in
      let here : is_canonical d ≡ true = first_true _ (list_all is_exact (item_numbers rest)) (sym (list_all-append is_exact (numbers d) (item_numbers rest)) ∙ all) in
      let long : room - length t < length (compact_text d) = none here in
      let sizes = ap length w.1 in
      omega (arith, sizes, long, length-append t (comma_if later ++ (compact_text d ++ items_text true rest)), length-append (comma_if later) (compact_text d ++ items_text true rest), length-append (compact_text d) (items_text true rest))

  one_more : (t i : List ℕ) (b : Bool) → nat_le (length ((t ++ comma_if later) ++ i)) room ≡ b → AreTexts room front later (Some t) → IsPieceOf (room - length t) d (Some i)
      → AreTexts room (λ rest. front (item d rest)) true (cut room ((t ++ comma_if later) ++ i))
  one_more t i true is h piece = rw is (λ rest.
      let w = h (item d rest) in (
        w.0 ∙ list_all-append is_exact (numbers d) (item_numbers rest) ∙ ap (λ b. b && list_all is_exact (item_numbers rest)) piece.0,
        w.1 ∙ ap (λ x. t ++ (comma_if later ++ (x ++ items_text true rest))) (sym piece.1) ∙ whole t (comma_if later) i (items_text true rest),
      ))
  one_more t i false is h piece = rw is (λ rest c.
      let w = h (item d rest) in
      let sizes = ap length (w.1 ∙ ap (λ x. t ++ (comma_if later ++ (x ++ items_text true rest))) (sym piece.1) ∙ whole t (comma_if later) i (items_text true rest)) in
      omega (arith, sizes, too_long room (length ((t ++ comma_if later) ++ i)) is, length-append ((t ++ comma_if later) ++ i) (items_text true rest)))

  pub texts_more : (text piece : Option (List ℕ)) → AreTexts room front later text → IsPieceOf (room_after text room) d piece → AreTexts room (λ rest. front (item d rest)) true (with_item room later text piece)
  texts_more None piece h k = λ rest. h (item d rest)
  texts_more (Some t) None h k = no_text t h k
  texts_more (Some t) (Some i) h k = one_more t i (nat_le (length ((t ++ comma_if later) ++ i)) room) refl h k
