-- Members that are put after all others, as a walk over a map in the order of its keys puts them.
use Rattle.std.proofs.Common.{◌≡◌, ℕ, List, [], ◌∷◌, Less, Greater, refl, ap, ◌∙◌, String, Global, string_bytes, string_cmp, nat_cmp}
use Rattle.std.specs.Prelude.{⊤}
use Rattle.std.proofs.lemmas.Cmp.{nat_list_cmp_total}
use Rattle.std.specs.Cmp.Lexicographic.{slice_cmp}
use Rattle.std.specs.List.{AllByRecursion}
use Rattle.std.specs.Map.{keys_of}
use Rattle.std.specs.Ordering.{ordering_reverse}
use Rattle.serde_json.specs.Data.{Data, Members, no_members, member, put}
use Rattle.serde_json.proofs.Views.{Entry}

abbrev pub appended : Members → Members → Members
appended no_members ns = ns
appended (member k d ms) ns = member k d (appended ms ns)

-- the key is above all of these
abbrev pub IsAbove : Members → List ℕ → Type 0
IsAbove no_members k = ⊤
IsAbove (member l d ms) k = (slice_cmp nat_cmp k l ≡ Greater) × IsAbove ms k

-- each of the later keys is
abbrev pub AllAbove : Members → List Entry → Type 0
AllAbove ms [] = ⊤
AllAbove ms (e ∷ es) = IsAbove ms (string_bytes e.0) × AllAbove ms es

pub put-above : (ms : Members) (k : List ℕ) (d : Data) → IsAbove ms k → put k d ms ≡ appended ms (member k d no_members)
put-above no_members k d above = refl
put-above (member l e ms) k d above = rw above.0 (ap (member l e) (put-above ms k d above.1))

pub appended-appended : (ms : Members) (k : List ℕ) (d : Data) (ns : Members) → appended (appended ms (member k d no_members)) ns ≡ appended ms (member k d ns)
appended-appended no_members k d ns = refl
appended-appended (member l e ms) k d ns = ap (member l e) (appended-appended ms k d ns)

pub appended-no_members : (ms : Members) → appended ms no_members ≡ ms
appended-no_members no_members = refl
appended-no_members (member l e ms) = ap (member l e) (appended-no_members ms)

above_more : (ms : Members) (k l : List ℕ) (d : Data) → IsAbove ms l → slice_cmp nat_cmp l k ≡ Greater → IsAbove (appended ms (member k d no_members)) l
above_more no_members k l d above last = (last, tt)
above_more (member m e ms) k l d above last = (above.0, above_more ms k l d above.1 last)

-- after a key is put at the end, those above it are above all
pub all_above_more : (ms : Members) (k : String Global) (d : Data) (es : List Entry) → AllByRecursion (λ l. string_cmp k l ≡ Less) (keys_of es) → AllAbove ms es
    → AllAbove (appended ms (member (string_bytes k) d no_members)) es
all_above_more ms k d [] below above = tt
all_above_more ms k d (e ∷ es) below above =
    let last : slice_cmp nat_cmp (string_bytes e.0) (string_bytes k) ≡ Greater = nat_list_cmp_total.antisymm (string_bytes e.0) (string_bytes k) ∙ ap ordering_reverse below.0 in
    (above_more ms (string_bytes k) (string_bytes e.0) d above.0 last, all_above_more ms k d es below.1 above.1)

pub all_above_none : (es : List Entry) → AllAbove no_members es
all_above_none [] = tt
all_above_none (e ∷ es) = (tt, all_above_none es)
