-- What is written member by member is the line.
use Rattle.std.proofs.Common.{◌≡◌, ℕ, List, [], ◌∷◌, ◌++◌, ◌&&◌, Bool, true, false, codes, map, Option, None, Some, Less, Equal, Greater, refl, sym, ap, ◌∙◌, append_assoc, append-nil}
use Rattle.std.specs.List.{list_all}
use Rattle.std.specs.BTreeMap.{insert_entry}
use Rattle.std.specs.Ordering.{match_ordering}
use Rattle.std.specs.declared.cmp.Ordering.{Ordering}
use Rattle.serde_json.specs.Data.{Data, object}
use Rattle.mx_canon.specs.Canonical.{canonical_text, value_text, member_text, sorted_members}
use Rattle.mx_canon.specs.KeyOrder.{text_cmp}
use Rattle.mx_canon.proofs.PieceLemmas.{after_commas, joined}
use Rattle.mx_lines.specs.Lines.{present, line_of}
use Rattle.mx_lines.specs.Written.{opened, with_member, with_members}

pub and_left : (a b : Bool) → (a && b) ≡ true → a ≡ true
and_left true b e = refl
and_left false b e = e

pub and_right : (a b : Bool) → (a && b) ≡ true → b ≡ true
and_right true b e = e
and_right false b e = absurd (cc e)

-- each key is below those after it
abbrev pub is_below : List ℕ → List ℕ → Bool
is_below k l = match_ordering (text_cmp k l) true false false

abbrev pub rise : List (List ℕ) → Bool
rise [] = true
rise (k ∷ ks) = list_all (is_below k) ks && rise ks

-- the members that are there, with their texts
abbrev entries : List (List ℕ × Option Data) → List (List ℕ × List ℕ)
entries [] = []
entries ((key, None) ∷ rest) = entries rest
entries ((key, Some d) ∷ rest) = (key, value_text d) ∷ entries rest

first-of : {A : Type 0} (o : Ordering) (a b c : A) → match_ordering o true false false ≡ true → match_ordering o a b c ≡ a
first-of Less a b c e = refl
first-of Equal a b c e = absurd (cc e)
first-of Greater a b c e = absurd (cc e)

insert-first : (k text : List ℕ) (rest : List (List ℕ × Option Data)) → list_all (is_below k) (map (λ m. m.0) rest) ≡ true → insert_entry text_cmp (entries rest) k text ≡ (k, text) ∷ entries rest
insert-first k text [] below = refl
insert-first k text ((l, None) ∷ rest) below = insert-first k text rest (and_right (is_below k l) _ below)
insert-first k text ((l, Some d) ∷ rest) below = first-of (text_cmp k l) _ _ _ (and_left (is_below k l) _ below)

sorted-present : (members : List (List ℕ × Option Data)) → rise (map (λ m. m.0) members) ≡ true → sorted_members (present members) ≡ entries members
sorted-present [] r = refl
sorted-present ((k, None) ∷ rest) r = sorted-present rest (and_right (list_all (is_below k) (map (λ m. m.0) rest)) _ r)
sorted-present ((k, Some d) ∷ rest) r =
    ap (λ es. insert_entry text_cmp es k (value_text d)) (sorted-present rest (and_right (list_all (is_below k) (map (λ m. m.0) rest)) _ r))
    ∙ insert-first k (value_text d) rest (and_left (list_all (is_below k) (map (λ m. m.0) rest)) _ r)

members-written : (taken : List ℕ) (members : List (List ℕ × Option Data)) → with_members taken members ≡ taken ++ after_commas (map member_text (entries members))
members-written taken [] = sym (append-nil taken)
members-written taken ((k, None) ∷ rest) = members-written taken rest
members-written taken ((k, Some d) ∷ rest) =
    members-written (with_member taken (k, Some d)) rest ∙ simp (append_assoc)

-- the whole object, with its first member
pub object-written : (taken k : List ℕ) (d : Data) (rest : List (List ℕ × Option Data)) → rise (k ∷ map (λ m. m.0) rest) ≡ true
    → with_members (opened taken k ++ value_text d) rest ++ codes "}" ≡ taken ++ value_text (object (present ((k, Some d) ∷ rest)))
object-written taken k d rest r =
    let is = sorted-present ((k, Some d) ∷ rest) r in
    ap (λ t. t ++ codes "}") (members-written (opened taken k ++ value_text d) rest)
    ∙ rw (is, joined (member_text (k, value_text d)) (map member_text (entries rest))) simp (append_assoc)

-- the whole line
pub line-written : (taken k : List ℕ) (d : Data) (rest : List (List ℕ × Option Data)) → rise (k ∷ map (λ m. m.0) rest) ≡ true
    → with_members (opened taken k ++ value_text d) rest ++ codes "}\n" ≡ taken ++ line_of ((k, Some d) ∷ rest)
unfolding line_of canonical_text
line-written taken k d rest r =
    let written = with_members (opened taken k ++ value_text d) rest in
    sym (append_assoc written (codes "}") (codes "\n")) ∙ ap (λ t. t ++ codes "\n") (object-written taken k d rest r)
    ∙ append_assoc taken (value_text (object (present ((k, Some d) ∷ rest)))) (codes "\n")
