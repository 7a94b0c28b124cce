-- An event of what was read of it.
use Rattle.std.proofs.Common.{◌≡◌, ℕ, List, [], ◌∷◌, Bool, true, false, ◌&&◌, ◌||◌, Some, refl, sym, ap, ◌∙◌, true≢false, arith}
use Rattle.std.specs.Prelude.{bytes_eq, if◌then◌else◌, string_bytes, unwrap_or}
use Rattle.std.specs.List.{list_all, list_any}
use Rattle.std.proofs.lemmas.Slice.Eq.{bytes_eq-Decides}
use Rattle.serde_json.specs.Data.{Data, null, boolean, number, string, array, object, Members, no_members, member}
use Rattle.serde_json.specs.View.{members_view}
use Rattle.mx_redact.specs.Fields.{is_object, is_some_and}
use Rattle.mx_redact.specs.Places.{IsPlacedEvent, redacted_by}
use Rattle.mx_redact.specs.Redaction.{is_among, is_kept_in, kept_by_type, members_where, redacted_content}
use Rattle.mx_redact.specs.declared.places.MemberPlace.{MemberPlace}
use Rattle.mx_pdu.specs.EventParts.{IsReadAs}
use Rattle.mx_pdu.specs.RuleContent.{is_rule_key, rule_content}
use Rattle.mx_pdu.specs.declared.assembling.EventParts.{EventParts}
use Rattle.mx_pdu.proofs.FormatLemmas.{and-left, and-right, required-at}

-- ---- what redaction keeps of a content is among what rules read

among-all : (test : List ℕ → Bool) (ws : List (List ℕ)) (k : List ℕ) → list_all test ws ≡ true → is_among ws k ≡ true
    → test k ≡ true
among-all test [] k all e = absurd (true≢false (sym e))
among-all test (w ∷ ws) k all e =
    elim (bytes_eq k w) as (λ b. bytes_eq k w ≡ b → (b || is_among ws k) ≡ true → test k ≡ true) [
      | true ↦ λ h _. ap test ((bytes_eq-Decides k w).0 h) ∙ and-left _ _ all
      | false ↦ λ h o. among-all test ws k (and-right _ _ all) o
    ] refl e

abbrev Row : Type 0
Row = List ℕ × List (List ℕ)

among-rows : (test : List ℕ → Bool) (type : List ℕ) (rows : List Row) (k : List ℕ)
    → list_all (λ row. list_all test row.1) rows ≡ true
    → list_any (λ row. bytes_eq type row.0 && is_among row.1 k) rows ≡ true → test k ≡ true
among-rows test type [] k all e = absurd (true≢false (sym e))
among-rows test type (row ∷ rows) k all e =
    elim (bytes_eq type row.0 && is_among row.1 k) as (λ b. (bytes_eq type row.0 && is_among row.1 k) ≡ b → (b || list_any (λ row. bytes_eq type row.0 && is_among row.1 k) rows) ≡ true → test k ≡ true) [
      | true ↦ λ h _. among-all test row.1 k (and-left _ _ all) (and-right _ _ h)
      | false ↦ λ h o. among-rows test type rows k (and-right _ _ all) o
    ] refl e

kept-read : (type k : List ℕ) → is_kept_in type k ≡ true → is_rule_key k ≡ true
kept-read type k e = among-rows is_rule_key type kept_by_type k refl e

module _ (kept read : List ℕ → Bool) (within : (k : List ℕ) → kept k ≡ true → read k ≡ true) where
  one : (k : List ℕ) (d : Data) (ms rest : Members) (a b : Bool) → kept k ≡ a → read k ≡ b → ms ≡ members_where kept rest
      → (if a then member k d ms else ms) ≡ members_where kept (if b then member k d rest else rest)
  one k d ms rest true true is reads e = rw is (ap (member k d) e)
  one k d ms rest true false is reads e = absurd (true≢false (sym (within k is) ∙ reads))
  one k d ms rest false true is reads e = rw is e
  one k d ms rest false false is reads e = e

  where-within : (ms : Members) → members_where kept ms ≡ members_where kept (members_where read ms)
  where-within no_members = refl
  where-within (member k d ms) = one k d (members_where kept ms) (members_where read ms) (kept k) (read k) refl refl (where-within ms)

redacted-read : (type : List ℕ) (cs known : Members) → object known ≡ rule_content (object cs)
    → redacted_content type (object cs) ≡ redacted_content type (object known)
redacted-read type cs known e =
    ap object (where-within (is_kept_in type) is_rule_key (kept-read type) cs) ∙ ap (redacted_content type) (sym e)

redacted-by : (type : List ℕ) (known : Members) (d : Data) → is_object d ≡ true → object known ≡ rule_content d
    → redacted_content type d ≡ redacted_by type (Some known) d
redacted-by type known null is e = absurd (true≢false (sym is))
redacted-by type known (boolean b) is e = absurd (true≢false (sym is))
redacted-by type known (number n) is e = absurd (true≢false (sym is))
redacted-by type known (string s) is e = absurd (true≢false (sym is))
redacted-by type known (array ds) is e = absurd (true≢false (sym is))
redacted-by type known (object cs) is e = redacted-read type cs known e

pub placed : (text : List ℕ) (places : List MemberPlace) (p : EventParts) (ms : Members) → IsReadAs text places p ms
    → IsPlacedEvent text places (string_bytes p.kind) (Some (members_view p.content.entries)) ms
placed text places p ms h = record {
  members = h.placed;
  kind_is = h.parts.kind_is;
  content = λ d there.
      let all = required-at (object ms) 1 h.well_formed (omega arith) in
      let is : is_object d ≡ true = sym (ap (is_some_and is_object) there) ∙ all in
      redacted-by (string_bytes p.kind) (members_view p.content.entries) d is
      (h.parts.content_is ∙ ap (λ o. rule_content (unwrap_or o null)) there);
}
