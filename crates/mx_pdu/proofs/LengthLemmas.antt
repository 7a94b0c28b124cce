-- The canonical text of a redacted event is no longer than the event's.
use Rattle.std.proofs.Common.{◌≡◌, ℕ, suc, ◌+◌, ◌-◌, ◌≤◌, List, [], ◌∷◌, length, map, Bool, true, false, refl, ap, ◌∙◌, arith, length-append}
use Rattle.std.specs.Prelude.{codes, bytes_eq, if◌then◌else◌}
use Rattle.std.specs.List.{join_with_byte}
use Rattle.std.specs.List.Sorted.{IsStrictlySortedBy}
use Rattle.serde_json.specs.Data.{Data, null, boolean, number, string, array, object, Members, no_members, member}
use Rattle.mx_canon.specs.Canonical.{value_text, string_text, member_text, sorted_members}
use Rattle.mx_canon.specs.KeyOrder.{text_cmp, keys, KeysRise, KeysRiseInMembers}
use Rattle.mx_canon.proofs.TextLemmas.{entries-first}
use Rattle.mx_redact.specs.Redaction.{members_where, is_kept_in, redacted_content, with_redacted_content}
use Rattle.mx_pdu.proofs.RiseLemmas.{sorted-where}

-- ---- the length of an object's text

-- each piece and a comma
abbrev with_commas : List (List ℕ) → ℕ
with_commas [] = 0
with_commas (x ∷ xs) = suc (length x + with_commas xs)

joined-length : (xs : List (List ℕ)) → length (join_with_byte 44 xs) ≡ with_commas xs - 1
joined-length [] = refl
joined-length (x ∷ []) = omega arith
joined-length (x ∷ y ∷ ys) = length-append x _ ∙ omega (arith, joined-length (y ∷ ys))

abbrev pairs : Members → List (List ℕ × List ℕ)
pairs no_members = []
pairs (member k d ms) = (k, value_text d) ∷ pairs ms

sorted-pairs : (ms : Members) → IsStrictlySortedBy text_cmp (keys ms) → sorted_members ms ≡ pairs ms
unfolding IsStrictlySortedBy
sorted-pairs no_members h = refl
sorted-pairs (member k d ms) h = entries-first k (value_text d) ms h.0 h.1 ∙ ap (λ es. (k, value_text d) ∷ es) (sorted-pairs ms h.1)

-- the members' texts, each with a comma
abbrev weight : Members → ℕ
weight no_members = 0
weight (member k d ms) = suc (length (string_text k) + (suc (length (value_text d)) + weight ms))

with_commas-pairs : (ms : Members) → with_commas (map member_text (pairs ms)) ≡ weight ms
with_commas-pairs no_members = refl
with_commas-pairs (member k d ms) = omega (arith, length-append (string_text k) (58 ∷ value_text d), with_commas-pairs ms)

object-length : (ms : Members) → IsStrictlySortedBy text_cmp (keys ms) → length (value_text (object ms)) ≡ 2 + (weight ms - 1)
object-length ms h =
    let body = join_with_byte 44 (map member_text (sorted_members ms)) in
    let joined : length body ≡ weight ms - 1 =
    joined-length (map member_text (sorted_members ms)) ∙ ap (λ es. with_commas (map member_text es) - 1) (sorted-pairs ms h) ∙ ap (λ n. n - 1) (with_commas-pairs ms) in
    omega (arith, length-append body (125 ∷ []), joined)

-- ---- the redacted form

weight-where_at : (k : List ℕ) (d : Data) (ms ns : Members) (b : Bool) → weight ms ≤ weight ns → weight (if b then member k d ms else ms) ≤ weight (member k d ns)
weight-where_at k d ms ns true h = omega arith
weight-where_at k d ms ns false h = omega arith

pub weight-where : (test : List ℕ → Bool) (ms : Members) → weight (members_where test ms) ≤ weight ms
weight-where test no_members = omega arith
weight-where test (member k d ms) = weight-where_at k d (members_where test ms) ms (test k) (weight-where test ms)

-- by the weights of members with rising keys
shorter : (ms ns : Members) → IsStrictlySortedBy text_cmp (keys ms) → IsStrictlySortedBy text_cmp (keys ns) → weight ms ≤ weight ns
    → length (value_text (object ms)) ≤ length (value_text (object ns))
shorter ms ns h k less = omega (arith, object-length ms h, object-length ns k)

content-shorter : (type : List ℕ) (d : Data) → KeysRise d → length (value_text (redacted_content type d)) ≤ length (value_text d)
content-shorter type null h = omega arith
content-shorter type (boolean b) h = omega arith
content-shorter type (number n) h = omega arith
content-shorter type (string s) h = omega arith
content-shorter type (array ds) h = omega arith
content-shorter type (object ms) h = shorter (members_where (is_kept_in type) ms) ms (sorted-where (is_kept_in type) ms h.0) h.0 (weight-where (is_kept_in type) ms)

value-shorter : (type : List ℕ) (d : Data) (b : Bool) → KeysRise d → length (value_text (if b then redacted_content type d else d)) ≤ length (value_text d)
value-shorter type d true h = content-shorter type d h
value-shorter type d false h = omega arith

weight-with : (type : List ℕ) (ms : Members) → KeysRiseInMembers ms → weight (with_redacted_content type ms) ≤ weight ms
weight-with type no_members h = omega arith
weight-with type (member k d ms) h = omega (arith, value-shorter type d (bytes_eq k (codes "content")) h.0, weight-with type ms h.1)

pub where-shorter : (test : List ℕ → Bool) (ms : Members) → KeysRise (object ms) → length (value_text (object (members_where test ms))) ≤ length (value_text (object ms))
where-shorter test ms h = shorter (members_where test ms) ms (sorted-where test ms h.0) h.0 (weight-where test ms)

pub with-shorter : (type : List ℕ) (ms : Members) → KeysRise (object ms) → KeysRise (object (with_redacted_content type ms))
    → length (value_text (object (with_redacted_content type ms))) ≤ length (value_text (object ms))
with-shorter type ms h k = shorter (with_redacted_content type ms) ms k.0 h.0 (weight-with type ms h.1)
