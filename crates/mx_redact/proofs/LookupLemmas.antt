-- Looking up a key among members.
use Rattle.std.proofs.Common.{◌≡◌, ℕ, List, true, false, refl, sym, ap, ◌∙◌, subst, true≢false, Option, Some, None}
use Rattle.std.proofs.lemmas.Cmp.{nat_list_cmp_total}
use Rattle.std.proofs.lemmas.Map.Text.{is_eq-slice_cmp}
use Rattle.std.proofs.lemmas.Slice.Eq.{bytes_eq-Decides}
use Rattle.std.specs.Cmp.Lexicographic.{slice_cmp}
use Rattle.std.specs.List.{AllByRecursion}
use Rattle.std.specs.Ordering.{is_eq, nat_cmp, match_ordering, ordering_reverse}
use Rattle.std.specs.Prelude.{bytes_eq}
use Rattle.std.specs.Str.{chars}
use Rattle.std.specs.declared.cmp.Ordering.{Ordering}
use Rattle.std.specs.declared.cmp.Ordering.TheVariants.{Less, Equal, Greater}
use Rattle.serde_json.specs.Data.{Data, Members, no_members, member}
use Rattle.serde_json.specs.Find.{get_member}
use Rattle.mx_canon.specs.KeyOrder.{keys, text_cmp}

lookup-other : (o : Ordering) (d : Data) (r : Option Data) → is_eq o ≡ false → match_ordering o r (Some d) r ≡ r
lookup-other Less d r h = refl
lookup-other Equal d r h = absurd (true≢false h)
lookup-other Greater d r h = refl

lookup-same : (o : Ordering) (d : Data) (r : Option Data) → is_eq o ≡ true → match_ordering o r (Some d) r ≡ Some d
lookup-same Less d r h = absurd (true≢false (sym h))
lookup-same Equal d r h = refl
lookup-same Greater d r h = absurd (true≢false (sym h))

pub skips : (k l : List ℕ) (d : Data) (ms : Members) → bytes_eq k l ≡ false → get_member k (member l d ms) ≡ get_member k ms
skips k l d ms h = lookup-other (slice_cmp nat_cmp k l) d (get_member k ms) (is_eq-slice_cmp k l ∙ h)

pub finds : (k l : List ℕ) (d : Data) (ms : Members) → bytes_eq k l ≡ true → get_member k (member l d ms) ≡ Some d
finds k l d ms h = lookup-same (slice_cmp nat_cmp k l) d (get_member k ms) (is_eq-slice_cmp k l ∙ h)

-- a key that is found is one of the keys
found-among : (P : List ℕ → Type 0) (k : List ℕ) (d : Data) (ms : Members) → AllByRecursion P (keys ms)
    → get_member k ms ≡ Some d → P k
found-among P k d no_members all got = let none : None ≡ Some d = got in cc
found-among P k d (member l e ms) all got =
    elim (bytes_eq k l) as (λ b. bytes_eq k l ≡ b → P k) [
      | true ↦ λ h. subst P (sym ((bytes_eq-Decides k l).0 h)) all.0
      | false ↦ λ h. found-among P k d ms all.1 (sym (skips k l e ms h) ∙ got)
    ] refl

not_below : (k : List ℕ) → text_cmp k k ≡ Less → ⊥
not_below k less =
    let turned : text_cmp k k ≡ ordering_reverse (text_cmp k k) = nat_list_cmp_total.antisymm (chars k) (chars k) in
    let both : Less ≡ Greater = sym less ∙ turned ∙ ap ordering_reverse less in
    cc

-- where the keys rise, a key that is found behind a member is not its key
pub found-later : (k l : List ℕ) (d e : Data) (ms : Members) → AllByRecursion (λ m. text_cmp l m ≡ Less) (keys ms)
    → get_member k ms ≡ Some d → get_member k (member l e ms) ≡ Some d
found-later k l d e ms below got =
    elim (bytes_eq k l) as (λ b. bytes_eq k l ≡ b → get_member k (member l e ms) ≡ Some d) [
      | true ↦ λ h. absurd (not_below k (subst (λ m. text_cmp m k ≡ Less) (sym ((bytes_eq-Decides k l).0 h)) (found-among (λ m. text_cmp l m ≡ Less) k d ms below got)))
      | false ↦ λ h. skips k l e ms h ∙ got
    ] refl

-- where the keys that are left are above a key, it is not among them
pub not-later : (k : List ℕ) (ms : Members) → AllByRecursion (λ m. text_cmp k m ≡ Less) (keys ms) → get_member k ms ≡ None
not-later k ms below =
    elim (get_member k ms) as (λ o. get_member k ms ≡ o → o ≡ None) [
      | None ↦ λ _. refl
      | Some d ↦ λ got. absurd (not_below k (found-among (λ m. text_cmp k m ≡ Less) k d ms below got))
    ] refl
