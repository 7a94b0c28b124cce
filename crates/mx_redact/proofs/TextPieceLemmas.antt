-- The pieces of an object's text, each behind a bracket or a comma.
use Rattle.std.proofs.Common.{◌≡◌, ℕ, suc, ◌+◌, ◌-◌, ◌≤◌, List, [], ◌∷◌, ◌++◌, Bool, true, false, cond, length, map, drop, refl, sym, ap, ◌∙◌, append_assoc, length-append, arith}
use Rattle.std.specs.List.{join_with_byte}
use Rattle.std.specs.List.Sorted.{IsStrictlySortedBy}
use Rattle.std.proofs.lemmas.List.{drop-drop, length-drop, drop_at}
use Rattle.serde_json.specs.Data.{Data, Members, member}
use Rattle.mx_canon.specs.Canonical.{canonical_text, member_text, sorted_members, string_text}
use Rattle.mx_canon.specs.KeyOrder.{keys, text_cmp}
use Rattle.mx_canon.proofs.PieceLemmas.{after_commas, joined}
use Rattle.mx_canon.proofs.TextLemmas.{entries-first}

-- what is left of the text from the bracket or the comma on, where these pieces are left
abbrev pub opened : Bool → List (List ℕ) → List ℕ
opened later pieces = cond later (after_commas pieces) (123 ∷ join_with_byte 44 pieces) ++ 125 ∷ []

abbrev pub pieces : Members → List (List ℕ)
pieces ms = map member_text (sorted_members ms)

abbrev pub piece : List ℕ → Data → List ℕ
piece k d = member_text (k, canonical_text d)

pub length-piece : (k : List ℕ) (d : Data) → length (piece k d) ≡ length (string_text k) + 1 + length (canonical_text d)
length-piece k d = let e = length-append (string_text k) (58 ∷ canonical_text d) in omega (arith, e)

first-opened : (later : Bool) (x : List ℕ) (ys : List (List ℕ))
    → opened later (x ∷ ys) ≡ cond later 44 123 ∷ (x ++ opened true ys)
first-opened true x ys = ap (λ t. 44 ∷ t) (append_assoc x (after_commas ys) (125 ∷ []))
first-opened false x ys = ap (λ t. 123 ∷ t) (ap (λ t. t ++ 125 ∷ []) (joined x ys) ∙ append_assoc x (after_commas ys) (125 ∷ []))

first-piece : (k : List ℕ) (d : Data) (ms : Members) → IsStrictlySortedBy text_cmp (keys (member k d ms))
    → pieces (member k d ms) ≡ piece k d ∷ pieces ms
unfolding IsStrictlySortedBy canonical_text
first-piece k d ms rise = ap (map member_text) (entries-first k (canonical_text d) ms rise.0 rise.1)

-- the first of the members that are left
module _ (text : List ℕ) (at : ℕ) (later : Bool) (k : List ℕ) (d : Data) (ms : Members)
    (rise : IsStrictlySortedBy text_cmp (keys (member k d ms))) (here : drop at text ≡ opened later (pieces (member k d ms))) where
  first : drop at text ≡ cond later 44 123 ∷ (piece k d ++ opened true (pieces ms))
  first = here ∙ ap (opened later) (first-piece k d ms rise) ∙ first-opened later (piece k d) (pieces ms)

  pub piece-here : drop (at + 1) text ≡ piece k d ++ opened true (pieces ms)
  piece-here = sym (drop-drop 1 at text) ∙ ap (drop 1) first

  pub comma-here : later ≡ true → drop at text ≡ 44 ∷ drop (at + 1) text
  comma-here e = first ∙ ap (λ b. cond b 44 123 ∷ (piece k d ++ opened true (pieces ms))) e ∙ ap (λ t. 44 ∷ t) (sym piece-here)

  pub piece-after : drop (at + 1 + length (piece k d)) text ≡ opened true (pieces ms)
  piece-after = sym (drop-drop (length (piece k d)) (at + 1) text) ∙ ap (drop (length (piece k d))) piece-here
      ∙ drop_at (piece k d) (opened true (pieces ms)) (length (piece k d)) refl

  pub piece-fits : at + 1 + length (piece k d) ≤ length text
  piece-fits =
      let e : length text - at ≡ suc (length (piece k d) + length (opened true (pieces ms))) =
      sym (length-drop at text) ∙ ap length first ∙ ap suc (length-append (piece k d) (opened true (pieces ms))) in
      omega (arith, e)
