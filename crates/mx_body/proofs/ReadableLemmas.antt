-- What is read has its keys in order, as texts.
use Rattle.std.proofs.Common.{◌≡◌, ℕ, List, Ordering, Less, Equal, Greater, nat_cmp, refl, ap, ◌∙◌, IsUtf8}
use Rattle.std.proofs.lemmas.Cmp.{nat_list_cmp_total}
use Rattle.std.specs.Cmp.Lexicographic.{slice_cmp}
use Rattle.std.specs.Ordering.{match_ordering, ordering_reverse}
use Rattle.std.specs.List.{AllByRecursion}
use Rattle.std.specs.List.Sorted.{IsStrictlySortedBy}
use Rattle.serde_json.specs.Data.{Data, null, boolean, number, string, array, object, Items, no_items, item, Members, no_members, member, put}
use Rattle.mx_canon.specs.KeyOrder.{text_cmp, keys, KeysRise, KeysRiseInItems, KeysRiseInMembers}
use Rattle.mx_canon.proofs.CodePoints.{cmp-chars}
use Rattle.mx_body.specs.Readable.{IsReadable, AreReadable, HasReadable}

abbrev cmp : List ℕ → List ℕ → Ordering
cmp = slice_cmp nat_cmp

abbrev Below : List ℕ → Members → Type 0
Below k ms = AllByRecursion (λ l. cmp k l ≡ Less) (keys ms)

-- ---- one member more

below-at : (o : Ordering) (x k l : List ℕ) (d e : Data) (ms : Members) → cmp x k ≡ Less → Below x (member l e ms) → Below x (put k d ms)
    → Below x (match_ordering o (member k d (member l e ms)) (member l d ms) (member l e (put k d ms)))
below-at Less x k l d e ms h b later = (h, b)
below-at Equal x k l d e ms h b later = b
below-at Greater x k l d e ms h b later = (b.0, later)

below-put : (x k : List ℕ) (d : Data) (ms : Members) → cmp x k ≡ Less → Below x ms → Below x (put k d ms)
below-put x k d no_members h b = (h, tt)
below-put x k d (member l e ms) h b = below-at (cmp k l) x k l d e ms h b (below-put x k d ms h b.1)

below-below : (x y : List ℕ) (ms : Members) → cmp x y ≡ Less → Below y ms → Below x ms
below-below x y no_members h b = tt
below-below x y (member l e ms) h b = (nat_list_cmp_total.trans x y l h b.0, below-below x y ms h b.1)

abbrev Rise : Members → Type 0
Rise ms = IsStrictlySortedBy cmp (keys ms)

rise-at : (o : Ordering) (k l : List ℕ) (d e : Data) (ms : Members) → cmp k l ≡ o → Rise (member l e ms) → Rise (put k d ms)
    → Rise (match_ordering o (member k d (member l e ms)) (member l d ms) (member l e (put k d ms)))
unfolding IsStrictlySortedBy
rise-at Less k l d e ms is h later = ((is, below-below k l ms is h.0), h)
rise-at Equal k l d e ms is h later = h
rise-at Greater k l d e ms is h later = (below-put l k d ms (nat_list_cmp_total.antisymm l k ∙ ap ordering_reverse is) h.0, later)

rise-put : (k : List ℕ) (d : Data) (ms : Members) → Rise ms → Rise (put k d ms)
unfolding IsStrictlySortedBy
rise-put k d no_members h = (tt, tt)
rise-put k d (member l e ms) h = rise-at (cmp k l) k l d e ms refl h (rise-put k d ms h.1)

has-at : (o : Ordering) (k l : List ℕ) (d e : Data) (ms : Members) → IsUtf8 k → IsReadable d → HasReadable (member l e ms) → HasReadable (put k d ms)
    → HasReadable (match_ordering o (member k d (member l e ms)) (member l d ms) (member l e (put k d ms)))
has-at Less k l d e ms u r h later = (u, r, h)
has-at Equal k l d e ms u r h later = (h.0, r, h.2)
has-at Greater k l d e ms u r h later = (h.0, h.1, later)

has-put : (k : List ℕ) (d : Data) (ms : Members) → IsUtf8 k → IsReadable d → HasReadable ms → HasReadable (put k d ms)
has-put k d no_members u r h = (u, r, tt)
has-put k d (member l e ms) u r h = has-at (cmp k l) k l d e ms u r h (has-put k d ms u r h.2)

pub IsReadable-put : (k : List ℕ) (d : Data) (ms : Members) → IsUtf8 k → IsReadable d → IsReadable (object ms) → IsReadable (object (put k d ms))
IsReadable-put k d ms u r h = (rise-put k d ms h.0, has-put k d ms u r h.1)

-- ---- the order of the keys by their code points

below_text : (k : List ℕ) (ms : Members) → IsUtf8 k → Below k ms → HasReadable ms → AllByRecursion (λ l. text_cmp k l ≡ Less) (keys ms)
below_text k no_members u b h = tt
below_text k (member l e ms) u b h = (cmp-chars k l u h.0 ∙ b.0, below_text k ms u b.1 h.2)

rise_text : (ms : Members) → Rise ms → HasReadable ms → IsStrictlySortedBy text_cmp (keys ms)
unfolding IsStrictlySortedBy
rise_text no_members s h = tt
rise_text (member k d ms) s h = (below_text k ms h.0 s.0 h.2, rise_text ms s.1 h.2)

mutual
  pub KeysRise-readable : (d : Data) → IsReadable d → KeysRise d
  KeysRise-readable null h = tt
  KeysRise-readable (boolean b) h = tt
  KeysRise-readable (number n) h = tt
  KeysRise-readable (string s) h = tt
  KeysRise-readable (array ds) h = rise_in_items ds h
  KeysRise-readable (object ms) h = (rise_text ms h.0 h.1, rise_in_members ms h.1)

  rise_in_items : (ds : Items) → AreReadable ds → KeysRiseInItems ds
  rise_in_items no_items h = tt
  rise_in_items (item d ds) h = (KeysRise-readable d h.0, rise_in_items ds h.1)

  rise_in_members : (ms : Members) → HasReadable ms → KeysRiseInMembers ms
  rise_in_members no_members h = tt
  rise_in_members (member k d ms) h = (KeysRise-readable d h.1, rise_in_members ms h.2)
