-- What is found in the redacted form of an event.
use Rattle.std.proofs.Common.{◌≡◌, ℕ, List, Bool, true, false, refl, sym, ap, ◌∙◌, true≢false, Some, option_map}
use Rattle.std.proofs.lemmas.Slice.Eq.{bytes_eq-Decides}
use Rattle.std.specs.Prelude.{codes, bytes_eq, if◌then◌else◌}
use Rattle.serde_json.specs.Data.{Data, Members, no_members, member}
use Rattle.serde_json.specs.Find.{get_member}
use Rattle.mx_redact.specs.Redaction.{members_where, redacted_content, with_redacted_content}
use Rattle.mx_redact.proofs.LookupLemmas.{finds, skips}

along : (test : List ℕ → Bool) (k l : List ℕ) → bytes_eq k l ≡ true → test k ≡ test l
along test k l h = ap test ((bytes_eq-Decides k l).0 h)

-- ---- the members that pass a test

get-where_at : (test : List ℕ → Bool) (k l : List ℕ) (d : Data) (ms : Members) (c b : Bool) → bytes_eq k l ≡ c → test l ≡ b → test k ≡ true
    → get_member k (members_where test ms) ≡ get_member k ms
    → get_member k (if b then member l d (members_where test ms) else members_where test ms) ≡ get_member k (member l d ms)
get-where_at test k l d ms true true e f h later = finds k l d (members_where test ms) e ∙ sym (finds k l d ms e)
get-where_at test k l d ms true false e f h later = absurd (true≢false (sym h ∙ along test k l e ∙ f))
get-where_at test k l d ms false true e f h later = skips k l d (members_where test ms) e ∙ later ∙ sym (skips k l d ms e)
get-where_at test k l d ms false false e f h later = later ∙ sym (skips k l d ms e)

pub get-where : (test : List ℕ → Bool) (k : List ℕ) (ms : Members) → test k ≡ true → get_member k (members_where test ms) ≡ get_member k ms
get-where test k no_members h = refl
get-where test k (member l d ms) h = get-where_at test k l d ms (bytes_eq k l) (test l) refl refl h (get-where test k ms h)

-- ---- beside the content

get-with_at : (type k l : List ℕ) (d : Data) (ms : Members) (c : Bool) → bytes_eq k l ≡ c → bytes_eq k (codes "content") ≡ false
    → get_member k (with_redacted_content type ms) ≡ get_member k ms
    → get_member k (with_redacted_content type (member l d ms)) ≡ get_member k (member l d ms)
get-with_at type k l d ms true e h later =
    finds k l _ (with_redacted_content type ms) e
    ∙ ap (λ b. Some (if b then redacted_content type d else d)) (sym (along (λ x. bytes_eq x (codes "content")) k l e) ∙ h)
    ∙ sym (finds k l d ms e)
get-with_at type k l d ms false e h later = skips k l _ (with_redacted_content type ms) e ∙ later ∙ sym (skips k l d ms e)

pub get-with : (type k : List ℕ) (ms : Members) → bytes_eq k (codes "content") ≡ false → get_member k (with_redacted_content type ms) ≡ get_member k ms
get-with type k no_members h = refl
get-with type k (member l d ms) h = get-with_at type k l d ms (bytes_eq k l) refl h (get-with type k ms h)

-- ---- the content

get-content_at : (type l : List ℕ) (d : Data) (ms : Members) (c : Bool) → bytes_eq (codes "content") l ≡ c
    → get_member (codes "content") (with_redacted_content type ms) ≡ option_map (redacted_content type) (get_member (codes "content") ms)
    → get_member (codes "content") (with_redacted_content type (member l d ms)) ≡ option_map (redacted_content type) (get_member (codes "content") (member l d ms))
get-content_at type l d ms true e later =
    finds (codes "content") l _ (with_redacted_content type ms) e
    ∙ ap (λ b. Some (if b then redacted_content type d else d)) (sym (along (λ x. bytes_eq x (codes "content")) (codes "content") l e))
    ∙ ap (option_map (redacted_content type)) (sym (finds (codes "content") l d ms e))
get-content_at type l d ms false e later =
    skips (codes "content") l _ (with_redacted_content type ms) e ∙ later ∙ ap (option_map (redacted_content type)) (sym (skips (codes "content") l d ms e))

pub get-content : (type : List ℕ) (ms : Members)
    → get_member (codes "content") (with_redacted_content type ms) ≡ option_map (redacted_content type) (get_member (codes "content") ms)
get-content type no_members = refl
get-content type (member l d ms) = get-content_at type l d ms (bytes_eq (codes "content") l) refl (get-content type ms)
