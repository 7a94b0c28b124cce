-- The texts in a list.
use Rattle.std.proofs.Common.{◌≡◌, ℕ, Bool, List, [], ◌∷◌, ◌||◌, Option, None, Some, refl, ap}
use Rattle.std.specs.Prelude.{filter_map}
use Rattle.std.specs.List.{list_any, cons_option}
use Rattle.serde_json.specs.Find.{as_str}
use Rattle.serde_json.specs.View.{view, items_view}
use Rattle.serde_json.specs.declared.value.Value.{Value}
use Rattle.mx_redact.specs.Fields.{item_list, is_some_and}

-- one of the entries that are texts passes a test
pub any-text : (test : List ℕ → Bool) (vs : List Value) → list_any (λ v. is_some_and test (as_str (view v))) vs ≡ list_any test (filter_map as_str (item_list (items_view vs)))
any-text test [] = refl
any-text test (v ∷ vs) = by (as_str (view v)) (any-text test vs)
  where
    by : (o : Option (List ℕ)) → list_any (λ v. is_some_and test (as_str (view v))) vs ≡ list_any test (filter_map as_str (item_list (items_view vs)))
        → (is_some_and test o || list_any (λ v. is_some_and test (as_str (view v))) vs) ≡ list_any test (cons_option o (filter_map as_str (item_list (items_view vs))))
    by None same = same
    by (Some t) same = ap (λ b. test t || b) same
