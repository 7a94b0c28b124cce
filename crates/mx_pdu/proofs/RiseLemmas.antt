-- The keys of a redacted event rise, and its numbers are exact, as those of the event.
use Rattle.std.proofs.Common.{◌≡◌, ℕ, List, ◌∷◌, Bool, true, false, ◌&&◌, refl, sym, ap, ◌∙◌, Less, subst}
use Rattle.std.specs.Prelude.{codes, bytes_eq, if◌then◌else◌}
use Rattle.std.specs.List.{list_all, AllByRecursion}
use Rattle.std.specs.List.Sorted.{IsStrictlySortedBy}
use Rattle.std.proofs.lemmas.List.Folds.{list_all-append}
use Rattle.serde_json.specs.Data.{Data, null, boolean, number, string, array, object, Members, no_members, member}
use Rattle.mx_canon.specs.Canonical.{is_canonical, is_exact, numbers, member_numbers}
use Rattle.mx_canon.specs.KeyOrder.{text_cmp, keys, KeysRise, KeysRiseInMembers}
use Rattle.mx_redact.specs.Redaction.{members_where, is_kept_in, redacted_content, with_redacted_content}
use Rattle.mx_pdu.proofs.FormatLemmas.{and-left, and-right, and-both}

-- ---- numbers

exact-where_at : (k : List ℕ) (d : Data) (ms : Members) (b : Bool) → is_canonical d ≡ true → list_all is_exact (member_numbers ms) ≡ true
    → list_all is_exact (member_numbers (if b then member k d ms else ms)) ≡ true
exact-where_at k d ms true h later = list_all-append is_exact (numbers d) (member_numbers ms) ∙ and-both _ _ h later
exact-where_at k d ms false h later = later

parts_exact : (k : List ℕ) (d : Data) (ms : Members) → list_all is_exact (member_numbers (member k d ms)) ≡ true
    → (is_canonical d ≡ true) × (list_all is_exact (member_numbers ms) ≡ true)
parts_exact k d ms h =
    let both : (is_canonical d && list_all is_exact (member_numbers ms)) ≡ true = sym (list_all-append is_exact (numbers d) (member_numbers ms)) ∙ h in
    (and-left _ _ both, and-right _ _ both)

pub exact-where : (test : List ℕ → Bool) (ms : Members) → list_all is_exact (member_numbers ms) ≡ true → list_all is_exact (member_numbers (members_where test ms)) ≡ true
exact-where test no_members h = refl
exact-where test (member k d ms) h =
    let parts = parts_exact k d ms h in
    exact-where_at k d (members_where test ms) (test k) parts.0 (exact-where test ms parts.1)

exact-content : (type : List ℕ) (d : Data) → is_canonical d ≡ true → is_canonical (redacted_content type d) ≡ true
exact-content type null h = h
exact-content type (boolean b) h = h
exact-content type (number n) h = h
exact-content type (string s) h = h
exact-content type (array ds) h = h
exact-content type (object ms) h = exact-where (is_kept_in type) ms h

exact-value : (type : List ℕ) (d : Data) (b : Bool) → is_canonical d ≡ true → is_canonical (if b then redacted_content type d else d) ≡ true
exact-value type d true h = exact-content type d h
exact-value type d false h = h

pub exact-with : (type : List ℕ) (ms : Members) → list_all is_exact (member_numbers ms) ≡ true
    → list_all is_exact (member_numbers (with_redacted_content type ms)) ≡ true
exact-with type no_members h = refl
exact-with type (member k d ms) h =
    let parts = parts_exact k d ms h in
    exact-where_at k (if bytes_eq k (codes "content") then redacted_content type d else d) (with_redacted_content type ms) true (exact-value type d (bytes_eq k (codes "content")) parts.0) (exact-with type ms parts.1)

-- ---- keys

below-where_at : (P : List ℕ → Type 0) (k : List ℕ) (d : Data) (ms : Members) (b : Bool) → P k → AllByRecursion P (keys ms) → AllByRecursion P (keys (if b then member k d ms else ms))
below-where_at P k d ms true here later = (here, later)
below-where_at P k d ms false here later = later

below-where : (P : List ℕ → Type 0) (test : List ℕ → Bool) (ms : Members) → AllByRecursion P (keys ms) → AllByRecursion P (keys (members_where test ms))
below-where P test no_members h = tt
below-where P test (member k d ms) h = below-where_at P k d (members_where test ms) (test k) h.0 (below-where P test ms h.1)

sorted-where_at : (k : List ℕ) (d : Data) (ms : Members) (b : Bool) → AllByRecursion (λ l. text_cmp k l ≡ Less) (keys ms) → IsStrictlySortedBy text_cmp (keys ms)
    → IsStrictlySortedBy text_cmp (keys (if b then member k d ms else ms))
unfolding IsStrictlySortedBy
sorted-where_at k d ms true below later = (below, later)
sorted-where_at k d ms false below later = later

pub sorted-where : (test : List ℕ → Bool) (ms : Members) → IsStrictlySortedBy text_cmp (keys ms) → IsStrictlySortedBy text_cmp (keys (members_where test ms))
unfolding IsStrictlySortedBy
sorted-where test no_members h = tt
sorted-where test (member k d ms) h =
    sorted-where_at k d (members_where test ms) (test k) (below-where (λ l. text_cmp k l ≡ Less) test ms h.0) (sorted-where test ms h.1)

rise-where_at : (k : List ℕ) (d : Data) (ms : Members) (b : Bool) → KeysRise d → KeysRiseInMembers ms → KeysRiseInMembers (if b then member k d ms else ms)
rise-where_at k d ms true here later = (here, later)
rise-where_at k d ms false here later = later

pub rise-where : (test : List ℕ → Bool) (ms : Members) → KeysRiseInMembers ms → KeysRiseInMembers (members_where test ms)
rise-where test no_members h = tt
rise-where test (member k d ms) h = rise-where_at k d (members_where test ms) (test k) h.0 (rise-where test ms h.1)

rise-content : (type : List ℕ) (d : Data) → KeysRise d → KeysRise (redacted_content type d)
rise-content type null h = h
rise-content type (boolean b) h = h
rise-content type (number n) h = h
rise-content type (string s) h = h
rise-content type (array ds) h = h
rise-content type (object ms) h = (sorted-where (is_kept_in type) ms h.0, rise-where (is_kept_in type) ms h.1)

rise-value : (type : List ℕ) (d : Data) (b : Bool) → KeysRise d → KeysRise (if b then redacted_content type d else d)
rise-value type d true h = rise-content type d h
rise-value type d false h = h

rise-with : (type : List ℕ) (ms : Members) → KeysRiseInMembers ms → KeysRiseInMembers (with_redacted_content type ms)
rise-with type no_members h = tt
rise-with type (member k d ms) h = (rise-value type d (bytes_eq k (codes "content")) h.0, rise-with type ms h.1)

keys-with : (type : List ℕ) (ms : Members) → keys ms ≡ keys (with_redacted_content type ms)
keys-with type no_members = refl
keys-with type (member k d ms) = ap (λ ks. k ∷ ks) (keys-with type ms)

pub object-with : (type : List ℕ) (ms : Members) → KeysRise (object ms) → KeysRise (object (with_redacted_content type ms))
object-with type ms h = (subst (IsStrictlySortedBy text_cmp) (keys-with type ms) h.0, rise-with type ms h.1)

pub object-where : (test : List ℕ → Bool) (ms : Members) → KeysRise (object ms) → KeysRise (object (members_where test ms))
object-where test ms h = (sorted-where test ms h.0, rise-where test ms h.1)
