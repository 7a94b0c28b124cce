-- The text of an object, member by member.
use Rattle.std.proofs.Common.{◌≡◌, ℕ, List, [], ◌∷◌, ◌++◌, codes, map, refl, sym, ap, append_assoc, false, true}
use Rattle.std.specs.List.{join_with_byte}
use Rattle.serde_json.specs.Data.{Data, object, Members, no_members, member}
use Rattle.mx_canon.specs.Canonical.{canonical_text, value_text, string_text, member_text, sorted_members}
use Rattle.mx_canon.specs.Pieces.{comma_if}

-- what is written with the first member, and with a later one
abbrev pub with_first : (taken key text : List ℕ) → List ℕ
with_first taken key text = (((taken ++ codes "{") ++ comma_if false) ++ (string_text key ++ codes ":")) ++ text

abbrev pub with_next : (taken key text : List ℕ) → List ℕ
with_next taken key text = ((taken ++ comma_if true) ++ (string_text key ++ codes ":")) ++ text

-- an object whose sorted members are these
abbrev Are : Members → List (List ℕ × List ℕ) → Type 0
Are ms entries = sorted_members ms ≡ entries

flat : (taken : List ℕ) (ms : Members) (entries : List (List ℕ × List ℕ)) → Are ms entries
    → taken ++ (codes "{" ++ (join_with_byte 44 (map member_text entries) ++ codes "}")) ≡ taken ++ canonical_text (object ms)
unfolding canonical_text
flat taken ms entries are = ap (λ es. taken ++ (codes "{" ++ (join_with_byte 44 (map member_text es) ++ codes "}"))) (sym are)

pub one : (taken k : List ℕ) (d : Data) → with_first taken k (value_text d) ++ codes "}" ≡ taken ++ canonical_text (object (member k d no_members))
one taken k d =
    let whole = flat taken (member k d no_members) ((k, value_text d) ∷ []) refl in
    rw (← whole) simp (append_assoc)

pub two : (taken k l : List ℕ) (d e : Data) → Are (member k d (member l e no_members)) ((k, value_text d) ∷ (l, value_text e) ∷ [])
    → with_next (with_first taken k (value_text d)) l (value_text e) ++ codes "}" ≡ taken ++ canonical_text (object (member k d (member l e no_members)))
two taken k l d e are =
    let whole = flat taken (member k d (member l e no_members)) ((k, value_text d) ∷ (l, value_text e) ∷ []) are in
    rw (← whole) simp (append_assoc)

pub three : (taken k l m : List ℕ) (d e f : Data) → Are (member k d (member l e (member m f no_members))) ((k, value_text d) ∷ (l, value_text e) ∷ (m, value_text f) ∷ [])
    → with_next (with_next (with_first taken k (value_text d)) l (value_text e)) m (value_text f) ++ codes "}" ≡ taken ++ canonical_text (object (member k d (member l e (member m f no_members))))
three taken k l m d e f are =
    let whole = flat taken (member k d (member l e (member m f no_members))) ((k, value_text d) ∷ (l, value_text e) ∷ (m, value_text f) ∷ []) are in
    rw (← whole) simp (append_assoc)

pub four : (taken k l m n : List ℕ) (d e f g : Data) → Are (member k d (member l e (member m f (member n g no_members)))) ((k, value_text d) ∷ (l, value_text e) ∷ (m, value_text f) ∷ (n, value_text g) ∷ [])
    → with_next (with_next (with_next (with_first taken k (value_text d)) l (value_text e)) m (value_text f)) n (value_text g) ++ codes "}" ≡ taken ++ canonical_text (object (member k d (member l e (member m f (member n g no_members)))))
four taken k l m n d e f g are =
    let whole = flat taken (member k d (member l e (member m f (member n g no_members)))) ((k, value_text d) ∷ (l, value_text e) ∷ (m, value_text f) ∷ (n, value_text g) ∷ []) are in
    rw (← whole) simp (append_assoc)
