-- An event and its text.
use Rattle.std.proofs.Common.{◌≡◌, ◌≤◌, ℕ, List, arith, true, Some, None, Option, ap, ◌∙◌, is_none}
use Rattle.std.specs.Prelude.{nat_le, unwrap_or}
use Rattle.std.proofs.lemmas.Bool.Decides.{nat_tests}
use Rattle.serde_json.specs.Data.{Data, null}
use Rattle.serde_json.specs.Read.{read}
use Rattle.mx_canon.specs.Canonical.{canonical_error, is_canonical}
use Rattle.mx_pdu.specs.Inside.{value_in}
use Rattle.mx_pdu.proofs.CanonicalLemmas.{is_none-canonical_error}

pub value-read : (text : List ℕ) (d : Data) → read text ≡ Some d → value_in text ≡ d
unfolding value_in
value-read text d reads = ap (λ o. unwrap_or o null) reads

is-none : {A : Type 0} (o : Option A) → is_none o ≡ true → o ≡ None
is-none None h = cc
is-none (Some x) h = cc

pub no-error : (d : Data) → is_canonical d ≡ true → canonical_error d ≡ None
no-error d h = is-none (canonical_error d) (is_none-canonical_error d ∙ h)

pub low-enough : (n m : ℕ) → nat_le n m ≡ true → n ≤ m
low-enough n m h = grind (arith, nat_tests)
