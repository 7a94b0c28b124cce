-- Redaction nests no deeper.
use Rattle.std.proofs.Common.{ℕ, ◌≤◌, ◌≡◌, List, Bool, true, false, arith, if◌then◌else◌}
use Rattle.std.specs.Prelude.{codes, bytes_eq, max, nat_le}
use Rattle.std.proofs.lemmas.Bool.Decides.{nat_tests}
use Rattle.std.proofs.Math.Nat.{le-max_left, le-max_right, max-le}
use Rattle.serde_json.specs.Data.{Data, null, boolean, number, string, array, object, Members, no_members, member, depth, members_depth}
use Rattle.mx_redact.specs.Fields.{kind}
use Rattle.mx_redact.specs.Redaction.{is_among, kept_keys, is_kept_in, members_where, redacted_content, with_redacted_content, redact}
use Rattle.mx_pdu.specs.Format.{has_readable_nesting}

le-trans : (a b c : ℕ) → a ≤ b → b ≤ c → a ≤ c
le-trans a b c h k = omega arith

max-both : (a b c d : ℕ) → a ≤ b → c ≤ d → max a c ≤ max b d
max-both a b c d h k = max-le (le-trans a b (max b d) h (le-max_left b d)) (le-trans c d (max b d) k (le-max_right b d))

same : (n : ℕ) → n ≤ n
same n = omega arith

one-where : (b : Bool) (k : List ℕ) (d : Data) (xs ms : Members) → members_depth xs ≤ members_depth ms
    → members_depth (if b then member k d xs else xs) ≤ max (depth d) (members_depth ms)
one-where true k d xs ms h = max-both (depth d) (depth d) (members_depth xs) (members_depth ms) (same (depth d)) h
one-where false k d xs ms h = le-trans (members_depth xs) (members_depth ms) (max (depth d) (members_depth ms)) h (le-max_right (depth d) (members_depth ms))

pub where-nests : (test : List ℕ → Bool) (ms : Members) → members_depth (members_where test ms) ≤ members_depth ms
where-nests test no_members = omega arith
where-nests test (member k d ms) = one-where (test k) k d (members_where test ms) ms (where-nests test ms)

content-nests : (type : List ℕ) (d : Data) → depth (redacted_content type d) ≤ depth d
content-nests type null = omega arith
content-nests type (boolean b) = omega arith
content-nests type (number n) = omega arith
content-nests type (string s) = omega arith
content-nests type (array ds) = same (depth (array ds))
content-nests type (object ms) = omega (arith, where-nests (is_kept_in type) ms)

one-with : (b : Bool) (type : List ℕ) (d : Data) → depth (if b then redacted_content type d else d) ≤ depth d
one-with true type d = content-nests type d
one-with false type d = same (depth d)

with-nests : (type : List ℕ) (ms : Members) → members_depth (with_redacted_content type ms) ≤ members_depth ms
with-nests type no_members = omega arith
with-nests type (member k d ms) =
    let content = bytes_eq k (codes "content") in
    max-both (depth (if content then redacted_content type d else d)) (depth d) (members_depth (with_redacted_content type ms)) (members_depth ms)
    (one-with content type d) (with-nests type ms)

object-nests : (ms : Members) → depth (redact (object ms)) ≤ depth (object ms)
unfolding redact
object-nests ms =
    let kept = members_where (is_among kept_keys) ms in
    omega (
      arith,
      le-trans (members_depth (with_redacted_content (kind (object ms)) kept)) (members_depth kept) (members_depth ms)
          (with-nests (kind (object ms)) kept) (where-nests (is_among kept_keys) ms),
    )

fits : (a b n : ℕ) → a ≤ b → nat_le b n ≡ true → nat_le a n ≡ true
fits a b n h k = grind (arith, nat_tests)

pub redact-nests : (ms : Members) → has_readable_nesting (object ms) ≡ true → has_readable_nesting (redact (object ms)) ≡ true
redact-nests ms h = fits (depth (redact (object ms))) (depth (object ms)) _ (object-nests ms) h
