-- A part by one filter, and the parts that redaction and the hashes are defined by.
use Rattle.std.proofs.Common.{◌≡◌, ℕ, Bool, true, false, not, ◌&&◌, List, ◌∷◌, refl, sym, ap, ap₂, ◌∙◌, String, Global, BTreeMap}
use Rattle.serde_json.specs.View.{view, members_view}
use Rattle.serde_json.specs.declared.value.Value.{Value, Object}
use Rattle.serde_json.proofs.Views.{view-Object}
use Rattle.std.specs.Prelude.{codes, bytes_eq, if◌then◌else◌, Option, Some, None}
use Rattle.serde_json.specs.Data.{Data, null, boolean, number, string, array, object, Members, no_members, member}
use Rattle.mx_redact.specs.Redaction.{members_where, is_among, kept_keys, with_redacted_content, redacted_content, is_kept_in, redact}
use Rattle.mx_redact.specs.Selected.{is_in_part, selected, selected_value, inner_of, part_by, kept_part, is_kept_content, kept_content_of}
use Rattle.std.proofs.Common.{Less, ◌||◌, subst}
use Rattle.std.proofs.lemmas.Slice.Eq.{bytes_eq-Decides}
use Rattle.mx_redact.specs.Fields.{words, kind}
use Rattle.mx_redact.specs.Hashes.{hashed_part, signed_part}
use Rattle.std.specs.List.{AllByRecursion}
use Rattle.std.specs.List.Sorted.{IsStrictlySortedBy}
use Rattle.mx_canon.specs.Canonical.{numbers, member_numbers, sorted_members, value_text, canonical_error}
use Rattle.mx_canon.specs.KeyOrder.{text_cmp, keys}
use Rattle.mx_canon.proofs.TextLemmas.{entries-first}
use Rattle.mx_canon.specs.Faults.{fault_of, graver}
use Rattle.mx_canon.specs.declared.checking.NotCanonical.{NotCanonical}
use Rattle.mx_canon.proofs.FaultLemmas.{graver-fault_of}
use Rattle.mx_redact.specs.declared.kinds.KeptContent.{KeptContent}
use Rattle.mx_redact.specs.declared.selections.Selection.{Selection}
use Rattle.mx_redact.specs.declared.selections.Selection.TheVariants.{Hashed, Redacted, Signed, Content}

pub selected-Content : (kept : KeptContent) (ms : Members) → selected (Content kept) ms ≡ members_where (is_kept_content kept) ms
selected-Content kept no_members = refl
selected-Content kept (member k d ms) = ap (λ r. if is_kept_content kept k then member k d r else r) (selected-Content kept ms)

-- an object of which a part is kept
pub selected_value-Object : (s : Selection) (k : List ℕ) (o : Option KeptContent) (kept : KeptContent) (v : Value) (m : BTreeMap (String Global) Value)
    → o ≡ Some kept → o ≡ inner_of s k → v ≡ Object m → selected_value s k (view v) ≡ object (selected (Content kept) (members_view m.entries))
selected_value-Object s k o kept v m some inner is =
    ap₂ part_by (sym inner ∙ some) (ap view is ∙ view-Object m) ∙ ap object (sym (selected-Content kept (members_view m.entries)))

module _ (s : Selection) (k : List ℕ) (d : Data) (ms : Members) where
  at : Bool → Members
  at b = if b then member k (selected_value s k d) (selected s ms) else selected s ms

  pub selected-in : is_in_part s k ≡ true → selected s (member k d ms) ≡ member k (selected_value s k d) (selected s ms)
  unfolding at
  selected-in e = ap at e

  pub selected-out : is_in_part s k ≡ false → selected s (member k d ms) ≡ selected s ms
  unfolding at
  selected-out e = ap at e

-- one member more, in a part or not, beside the fault that was found
module _ (s : Selection) (k : List ℕ) (d : Data) (ms : Members) (found whole : Option NotCanonical) where
  pub fault-out : is_in_part s k ≡ false → graver found (fault_of (member_numbers (selected s (member k d ms)))) ≡ whole → graver found (fault_of (member_numbers (selected s ms))) ≡ whole
  fault-out out e = ap (λ ns. graver found (fault_of (member_numbers ns))) (sym (selected-out s k d ms out)) ∙ e

  pub fault-in : (o : Option NotCanonical) → is_in_part s k ≡ true → o ≡ fault_of (numbers (selected_value s k d))
      → graver found (fault_of (member_numbers (selected s (member k d ms)))) ≡ whole
      → graver (graver found o) (fault_of (member_numbers (selected s ms))) ≡ whole
  fault-in o inside is e =
      ap (λ x. graver (graver found x) (fault_of (member_numbers (selected s ms)))) is
      ∙ graver-fault_of found (numbers (selected_value s k d)) (member_numbers (selected s ms))
      ∙ ap (λ ns. graver found (fault_of (member_numbers ns))) (sym (selected-in s k d ms inside))
      ∙ e

-- ---- the keys of a part rise as those of the whole

below_at : (P : List ℕ → Type 0) (b : Bool) (k : List ℕ) (d : Data) (ms : Members) → P k → AllByRecursion P (keys ms) → AllByRecursion P (keys (if b then member k d ms else ms))
below_at P true k d ms here later = (here, later)
below_at P false k d ms here later = later

pub below_selected : (P : List ℕ → Type 0) (s : Selection) (ms : Members) → AllByRecursion P (keys ms) → AllByRecursion P (keys (selected s ms))
below_selected P s no_members all = tt
below_selected P s (member k d ms) all = below_at P (is_in_part s k) k (selected_value s k d) (selected s ms) all.0 (below_selected P s ms all.1)

rise_at : (b : Bool) (k : List ℕ) (d : Data) (ms : Members) → AllByRecursion (λ l. text_cmp k l ≡ Less) (keys ms) → IsStrictlySortedBy text_cmp (keys ms)
    → IsStrictlySortedBy text_cmp (keys (if b then member k d ms else ms))
unfolding IsStrictlySortedBy
rise_at true k d ms below rise = (below, rise)
rise_at false k d ms below rise = rise

pub rise_selected : (s : Selection) (ms : Members) → IsStrictlySortedBy text_cmp (keys ms) → IsStrictlySortedBy text_cmp (keys (selected s ms))
unfolding IsStrictlySortedBy
rise_selected s no_members rise = tt
rise_selected s (member k d ms) rise =
    rise_at (is_in_part s k) k (selected_value s k d) (selected s ms) (below_selected (λ l. text_cmp k l ≡ Less) s ms rise.0) (rise_selected s ms rise.1)

-- the first member of a part is written first
pub sorted_members-selected : (s : Selection) (k : List ℕ) (d : Data) (ms : Members) → AllByRecursion (λ l. text_cmp k l ≡ Less) (keys ms) → IsStrictlySortedBy text_cmp (keys ms) → is_in_part s k ≡ true
    → sorted_members (selected s (member k d ms)) ≡ (k, value_text (selected_value s k d)) ∷ sorted_members (selected s ms)
sorted_members-selected s k d ms below rise inside =
    ap sorted_members (selected-in s k d ms inside)
    ∙ entries-first k (value_text (selected_value s k d)) (selected s ms) (below_selected (λ l. text_cmp k l ≡ Less) s ms below) (rise_selected s ms rise)

-- ---- the parts as redaction and the hashes define them

pub selected-Hashed : (ms : Members) → selected Hashed ms ≡ members_where (λ k. not (is_among (words "unsigned signatures hashes") k)) ms
selected-Hashed no_members = refl
selected-Hashed (member k d ms) = ap (λ r. if not (is_among (words "unsigned signatures hashes") k) then member k d r else r) (selected-Hashed ms)

or_false : (b : Bool) → b || false ≡ b
or_false true = refl
or_false false = refl

-- of a type that is this one
at_type : (type name : List ℕ) (k : List ℕ) → bytes_eq type name ≡ true → is_kept_content (kept_content_of name) k ≡ is_kept_in name k → is_kept_content (kept_content_of type) k ≡ is_kept_in type k
at_type type name k is e = subst (λ t. is_kept_content (kept_content_of t) k ≡ is_kept_in t k) (sym ((bytes_eq-Decides type name).0 is)) e

pub is_kept_content-of : (type k : List ℕ) → is_kept_content (kept_content_of type) k ≡ is_kept_in type k
is_kept_content-of type k =
    elim (bytes_eq type (codes "m.room.member")) as (λ b. bytes_eq type (codes "m.room.member") ≡ b → is_kept_content (kept_content_of type) k ≡ is_kept_in type k) [
      | true ↦ λ h. at_type type (codes "m.room.member") k h (sym (or_false _))
      | false ↦ λ h1. elim (bytes_eq type (codes "m.room.create")) as (λ b. bytes_eq type (codes "m.room.create") ≡ b → is_kept_content (kept_content_of type) k ≡ is_kept_in type k) [
        | true ↦ λ h. at_type type (codes "m.room.create") k h (sym (or_false _))
        | false ↦ λ h2. elim (bytes_eq type (codes "m.room.join_rules")) as (λ b. bytes_eq type (codes "m.room.join_rules") ≡ b → is_kept_content (kept_content_of type) k ≡ is_kept_in type k) [
          | true ↦ λ h. at_type type (codes "m.room.join_rules") k h (sym (or_false _))
          | false ↦ λ h3. elim (bytes_eq type (codes "m.room.power_levels")) as (λ b. bytes_eq type (codes "m.room.power_levels") ≡ b → is_kept_content (kept_content_of type) k ≡ is_kept_in type k) [
            | true ↦ λ h. at_type type (codes "m.room.power_levels") k h (sym (or_false _))
            | false ↦ λ h4. elim (bytes_eq type (codes "m.room.history_visibility")) as (λ b. bytes_eq type (codes "m.room.history_visibility") ≡ b → is_kept_content (kept_content_of type) k ≡ is_kept_in type k) [
              | true ↦ λ h. at_type type (codes "m.room.history_visibility") k h (sym (or_false _))
              | false ↦ λ h5. rw (h1, h2, h3, h4, h5) refl
            ] refl
          ] refl
        ] refl
      ] refl
    ] refl

members_where-same : (p q : List ℕ → Bool) (ms : Members) → ((k : List ℕ) → p k ≡ q k) → members_where p ms ≡ members_where q ms
members_where-same p q no_members same = refl
members_where-same p q (member k d ms) same = ap₂ (λ b r. if b then member k d r else r) (same k) (members_where-same p q ms same)

pub kept_part-of : (type : List ℕ) (d : Data) → kept_part (kept_content_of type) d ≡ redacted_content type d
kept_part-of type null = refl
kept_part-of type (boolean b) = refl
kept_part-of type (number n) = refl
kept_part-of type (string s) = refl
kept_part-of type (array ds) = refl
kept_part-of type (object ms) = ap object (members_where-same (is_kept_content (kept_content_of type)) (is_kept_in type) ms (is_kept_content-of type))

value_at : (type : List ℕ) (d : Data) (b : Bool) → part_by (if b then Some (kept_content_of type) else None) d ≡ (if b then redacted_content type d else d)
value_at type d true = kept_part-of type d
value_at type d false = refl

redacted_at : (type k : List ℕ) (d : Data) (ms ns : Members) (a : Bool) → ms ≡ with_redacted_content type ns
    → (if a then member k (part_by (if bytes_eq k (codes "content") then Some (kept_content_of type) else None) d) ms else ms) ≡ with_redacted_content type (if a then member k d ns else ns)
redacted_at type k d ms ns true e = ap₂ (member k) (value_at type d (bytes_eq k (codes "content"))) e
redacted_at type k d ms ns false e = e

selected-Redacted : (type : List ℕ) (ms : Members) → selected (Redacted (kept_content_of type)) ms ≡ with_redacted_content type (members_where (is_among kept_keys) ms)
selected-Redacted type no_members = refl
selected-Redacted type (member k d ms) = redacted_at type k d _ (members_where (is_among kept_keys) ms) (is_among kept_keys k) (selected-Redacted type ms)

abbrev is_signed : List ℕ → Bool
is_signed k = not (is_among (words "signatures unsigned") k)

signed_at : (type k : List ℕ) (d : Data) (ms ns : Members) (a b : Bool) → is_signed k ≡ b → ms ≡ members_where is_signed (with_redacted_content type ns)
    → (if a && b then member k (part_by (if bytes_eq k (codes "content") then Some (kept_content_of type) else None) d) ms else ms) ≡ members_where is_signed (with_redacted_content type (if a then member k d ns else ns))
signed_at type k d ms ns true true h e =
    ap₂ (member k) (value_at type d (bytes_eq k (codes "content"))) e
    ∙ ap (λ b. if b then member k (if bytes_eq k (codes "content") then redacted_content type d else d) (members_where is_signed (with_redacted_content type ns)) else members_where is_signed (with_redacted_content type ns)) (sym h)
signed_at type k d ms ns true false h e =
    e ∙ ap (λ b. if b then member k (if bytes_eq k (codes "content") then redacted_content type d else d) (members_where is_signed (with_redacted_content type ns)) else members_where is_signed (with_redacted_content type ns)) (sym h)
signed_at type k d ms ns false b h e = e

selected-Signed : (type : List ℕ) (ms : Members) → selected (Signed (kept_content_of type)) ms ≡ members_where is_signed (with_redacted_content type (members_where (is_among kept_keys) ms))
selected-Signed type no_members = refl
selected-Signed type (member k d ms) = signed_at type k d _ (members_where (is_among kept_keys) ms) (is_among kept_keys k) (is_signed k) refl (selected-Signed type ms)

pub selected-redact : (ms : Members) → object (selected (Redacted (kept_content_of (kind (object ms)))) ms) ≡ redact (object ms)
unfolding redact
selected-redact ms = ap object (selected-Redacted (kind (object ms)) ms)

pub selected-signed_part : (ms : Members) → object (selected (Signed (kept_content_of (kind (object ms)))) ms) ≡ signed_part (object ms)
unfolding redact
selected-signed_part ms = ap object (selected-Signed (kind (object ms)) ms)

pub selected-hashed_part : (ms : Members) → object (selected Hashed ms) ≡ hashed_part (object ms)
selected-hashed_part ms = ap object (selected-Hashed ms)

-- the fault of what is signed
pub fault-signed_part : (ms : Members) (kept : KeptContent) (o : Option NotCanonical) → kept ≡ kept_content_of (kind (object ms)) → o ≡ fault_of (member_numbers (selected (Signed kept) ms))
    → o ≡ canonical_error (signed_part (object ms))
fault-signed_part ms kept o of is = is ∙ ap (λ k. canonical_error (object (selected (Signed k) ms))) of ∙ ap canonical_error (selected-signed_part ms)
