-- What the members of a transaction say.
use Rattle.std.proofs.Common.{◌≡◌, ℕ, Bool, true, false, if◌then◌else◌, List, Option, Some, None, option_map, option_and_then, is_some, codes, bytes_eq, refl, sym, ap, ◌∙◌}
use Rattle.std.proofs.lemmas.Bool.{false≢true}
use Rattle.serde_json.specs.Data.{Data, Members, object, put}
use Rattle.serde_json.specs.Find.{get, get_member}
use Rattle.serde_json.proofs.Views.{get_member-put, get_member-put_other}
use Rattle.mx_redact.specs.Fields.{is_none_or}
use Rattle.mx_body.specs.Bodies.{entries_up_to, is_array_up_to, pdus_in, texts_within}
use Rattle.mx_body.specs.Transactions.{AreParts, texts_in}
use Rattle.mx_body.specs.declared.transactions.Parts.{Parts}

abbrev pdus_said : ℕ → Option Data → Option (List (List ℕ))
pdus_said n o = option_map (texts_within n) (option_and_then (entries_up_to 50) o)

found : (name key : List ℕ) (d : Data) (ms : Members) → key ≡ name → get_member name (put key d ms) ≡ Some d
found name key d ms e = ap (λ k. get_member name (put k d ms)) e ∙ get_member-put name d ms

apart : codes "edus" ≡ codes "pdus" → ⊥
apart e = false≢true (ap (λ k. bytes_eq k (codes "pdus")) e)

module _ (n : ℕ) (key : List ℕ) (d : Data) (ms : Members) (before after : Parts) (h : AreParts n ms before) where
  pub part_pdus : key ≡ codes "pdus" → texts_in after.pdus ≡ option_map (texts_within n) (entries_up_to 50 d) → after.has_few_edus ≡ before.has_few_edus → AreParts n (put key d ms) after
  part_pdus e pdus edus = record {
    pdus = pdus ∙ sym (ap (pdus_said n) (found (codes "pdus") key d ms e));
    edus = edus ∙ h.edus ∙ sym (ap (is_none_or (is_array_up_to 100)) (get_member-put_other (codes "edus") key d ms (λ other. apart (other ∙ e))));
  }

  pub part_edus : key ≡ codes "edus" → after.pdus ≡ before.pdus → after.has_few_edus ≡ is_array_up_to 100 d → AreParts n (put key d ms) after
  part_edus e pdus edus = record {
    pdus = ap texts_in pdus ∙ h.pdus ∙ sym (ap (pdus_said n) (get_member-put_other (codes "pdus") key d ms (λ other. apart (sym (other ∙ e)))));
    edus = edus ∙ sym (ap (is_none_or (is_array_up_to 100)) (found (codes "edus") key d ms e));
  }

  pub part_other : (key ≡ codes "pdus" → ⊥) → (key ≡ codes "edus" → ⊥) → after ≡ before → AreParts n (put key d ms) after
  part_other a b e = record {
    pdus = ap (λ p. texts_in p.pdus) e ∙ h.pdus ∙ sym (ap (pdus_said n) (get_member-put_other (codes "pdus") key d ms (λ same. a (sym same))));
    edus = ap (λ p. p.has_few_edus) e ∙ h.edus ∙ sym (ap (is_none_or (is_array_up_to 100)) (get_member-put_other (codes "edus") key d ms (λ same. b (sym same))));
  }

pub is_some-map : {A B : Type 0} (f : A → B) (o : Option A) → is_some (option_map f o) ≡ is_some o
is_some-map f None = refl
is_some-map f (Some a) = refl

chosen : (n : ℕ) (b : Bool) (x : Option (List Data)) → (if b then option_map (texts_within n) x else None) ≡ option_map (texts_within n) (if b then x else None)
chosen n true x = refl
chosen n false x = refl

-- the PDUs of an object, by what its members say
pub pdus_are : (n : ℕ) (ms : Members) (parts : Parts) → AreParts n ms parts → (if parts.has_few_edus then texts_in parts.pdus else None) ≡ option_map (texts_within n) (pdus_in (object ms))
pdus_are n ms parts h =
    ap (λ b. if b then texts_in parts.pdus else None) h.edus
    ∙ ap (λ t. if is_none_or (is_array_up_to 100) (get_member (codes "edus") ms) then t else None) h.pdus
    ∙ chosen n (is_none_or (is_array_up_to 100) (get_member (codes "edus") ms)) (option_and_then (entries_up_to 50) (get_member (codes "pdus") ms))

neither : (b : Bool) (o : Option (List Data)) → o ≡ None → (if b then o else None) ≡ None
neither true o e = e
neither false o e = refl

-- another value has no PDUs
pub no_pdus : (n : ℕ) (d : Data) → get (codes "pdus") d ≡ None → None ≡ option_map (texts_within n) (pdus_in d)
no_pdus n d e =
    sym (ap (option_map (texts_within n)) (neither (is_none_or (is_array_up_to 100) (get (codes "edus") d)) (option_and_then (entries_up_to 50) (get (codes "pdus") d)) (ap (option_and_then (entries_up_to 50)) e)))
