-- Arrays of an event.
use Rattle.std.proofs.Common.{◌≡◌, suc, List, [], ◌∷◌, Bool, true, ◌&&◌, length, Option, Some, None, option_and_then, refl, ap}
use Rattle.std.specs.List.{list_all}
use Rattle.serde_json.specs.Data.{Data, null, boolean, number, string, array, object, Items}
use Rattle.serde_json.specs.Find.{as_array}
use Rattle.serde_json.specs.View.{view, items_view}
use Rattle.serde_json.specs.declared.value.Value.{Value}
use Rattle.mx_redact.specs.Fields.{item_list, is_some_and, is_none_or}

pub items-all : (test : Data → Bool) (vs : List Value) → list_all (λ v. test (view v)) vs ≡ list_all test (item_list (items_view vs))
items-all test [] = refl
items-all test (v ∷ vs) = ap (λ b. test (view v) && b) (items-all test vs)

-- a test of an array, where there is one
pub array-test : (test : List Data → Bool) (o : Option Data) (ds : Items) → Some ds ≡ option_and_then as_array o
    → test (item_list ds) ≡ is_some_and (λ d. is_some_and (λ es. test (item_list es)) (as_array d)) o
array-test test None ds h = cc
array-test test (Some null) ds h = cc
array-test test (Some (boolean b)) ds h = cc
array-test test (Some (number n)) ds h = cc
array-test test (Some (string s)) ds h = cc
array-test test (Some (array es)) ds h = cc
array-test test (Some (object ms)) ds h = cc

pub array-limit : (test : List Data → Bool) (o : Option Data) (ds : Items) → Some ds ≡ option_and_then as_array o
    → test (item_list ds) ≡ is_none_or (λ d. is_none_or (λ es. test (item_list es)) (as_array d)) o
array-limit test None ds h = cc
array-limit test (Some null) ds h = cc
array-limit test (Some (boolean b)) ds h = cc
array-limit test (Some (number n)) ds h = cc
array-limit test (Some (string s)) ds h = cc
array-limit test (Some (array es)) ds h = cc
array-limit test (Some (object ms)) ds h = cc

pub no_array-limit : (test : List Data → Bool) (o : Option Data) → None ≡ option_and_then as_array o
    → true ≡ is_none_or (λ d. is_none_or (λ es. test (item_list es)) (as_array d)) o
no_array-limit test None h = refl
no_array-limit test (Some null) h = refl
no_array-limit test (Some (boolean b)) h = refl
no_array-limit test (Some (number n)) h = refl
no_array-limit test (Some (string s)) h = refl
no_array-limit test (Some (array es)) h = cc
no_array-limit test (Some (object ms)) h = refl

pub items-length : (vs : List Value) → length (item_list (items_view vs)) ≡ length vs
items-length [] = refl
items-length (v ∷ vs) = ap suc (items-length vs)
