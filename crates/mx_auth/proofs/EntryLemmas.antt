-- Entries of the maps of levels in a content.
use Rattle.std.proofs.Common.{◌≡◌, ℕ, refl, sym, ap, ◌∙◌, Bool, false, List, []}
use Rattle.std.specs.Prelude.{ℤ, not, ◌&&◌, bytes_eq, codes, Option, Some, None, unwrap_or, option_and_then}
use Rattle.std.specs.List.{list_any}
use Rattle.serde_json.specs.Data.{Data, null, boolean, number, string, array, object, Members}
use Rattle.serde_json.specs.Find.{as_object}
use Rattle.mx_redact.specs.Fields.{field, keys_of, object_keys}
use Rattle.mx_levels.specs.Level.{level_at}
use Rattle.mx_auth.specs.Rules.{same_level, is_above, is_at_or_above, some_above, some_other_user}
use Rattle.mx_auth.specs.Entries.{level_in, is_altered_above, is_other_user_altered}
use Rattle.mx_auth.proofs.ListLemmas.{list_any-same}

-- ---- the value at a key, by the object there

at_object : (o : Option Data) (ms : Members) → option_and_then as_object o ≡ Some ms → unwrap_or o null ≡ object ms
at_object None ms h = cc
at_object (Some null) ms h = cc
at_object (Some (boolean b)) ms h = cc
at_object (Some (number n)) ms h = cc
at_object (Some (string s)) ms h = cc
at_object (Some (array ds)) ms h = cc
at_object (Some (object ns)) ms h = cc

object_keys-none : (o : Option Data) → option_and_then as_object o ≡ None → object_keys (unwrap_or o null) ≡ []
object_keys-none None h = refl
object_keys-none (Some null) h = refl
object_keys-none (Some (boolean b)) h = refl
object_keys-none (Some (number n)) h = refl
object_keys-none (Some (string s)) h = refl
object_keys-none (Some (array ds)) h = refl
object_keys-none (Some (object ns)) h = cc

level_at-object : (key : List ℕ) (o : Option Data) → level_in (option_and_then as_object o) key ≡ level_at key (unwrap_or o null)
level_at-object key None = refl
level_at-object key (Some null) = refl
level_at-object key (Some (boolean b)) = refl
level_at-object key (Some (number n)) = refl
level_at-object key (Some (string s)) = refl
level_at-object key (Some (array ds)) = refl
level_at-object key (Some (object ns)) = refl

-- ---- an entry of a map that is altered

abbrev altered : (List ℕ → Option ℤ → Bool) → Data → Data → List ℕ → Bool
altered refused one other key = not (same_level (level_at key one) (level_at key other)) && refused key (level_at key one)

-- over the objects at a key, or none
altered-in : (refused : List ℕ → Option ℤ → Bool) (o p : Option Data) (ms : Members) (others : Option Members) → option_and_then as_object o ≡ Some ms → others ≡ option_and_then as_object p
    → list_any (λ key. not (same_level (level_at key (object ms)) (level_in others key)) && refused key (level_at key (object ms))) (keys_of ms)
    ≡ list_any (altered refused (unwrap_or o null) (unwrap_or p null)) (object_keys (unwrap_or o null))
altered-in refused o p ms others h k =
    list_any-same _ (altered refused (object ms) (unwrap_or p null))
    (λ key. ap (λ level. not (same_level (level_at key (object ms)) level) && refused key (level_at key (object ms))) (ap (λ (entries : Option Members). level_in entries key) k ∙ level_at-object key p))
    (keys_of ms)
    ∙ ap (λ d. list_any (altered refused d (unwrap_or p null)) (object_keys d)) (sym (at_object o ms h))

altered-none : (refused : List ℕ → Option ℤ → Bool) (o p : Option Data) → option_and_then as_object o ≡ None
    → list_any (altered refused (unwrap_or o null) (unwrap_or p null)) (object_keys (unwrap_or o null)) ≡ false
altered-none refused o p h = ap (list_any (altered refused (unwrap_or o null) (unwrap_or p null))) (object_keys-none o h)

pub some_above-in : (z : ℤ) (map : List ℕ) (one other : Data) (ms : Members) (others : Option Members) (found : Bool) → option_and_then as_object (field map one) ≡ Some ms → others ≡ option_and_then as_object (field map other)
    → found ≡ list_any (is_altered_above z ms others) (keys_of ms) → found ≡ some_above z map one other
unfolding some_above is_altered_above
some_above-in z map one other ms others found h k f = f ∙ altered-in (λ key level. is_above z level) (field map one) (field map other) ms others h k

pub some_above-none : (z : ℤ) (map : List ℕ) (one other : Data) → option_and_then as_object (field map one) ≡ None → some_above z map one other ≡ false
unfolding some_above
some_above-none z map one other h = altered-none (λ key level. is_above z level) (field map one) (field map other) h

pub some_other_user-in : (sender : List ℕ) (z : ℤ) (one other : Data) (ms : Members) (others : Option Members) (found : Bool) → option_and_then as_object (field (codes "users") one) ≡ Some ms → others ≡ option_and_then as_object (field (codes "users") other)
    → found ≡ list_any (is_other_user_altered sender z ms others) (keys_of ms) → found ≡ some_other_user sender z one other
unfolding some_other_user is_other_user_altered
some_other_user-in sender z one other ms others found h k f = f ∙ altered-in (λ user level. not (bytes_eq user sender) && is_at_or_above z level) (field (codes "users") one) (field (codes "users") other) ms others h k

pub some_other_user-none : (sender : List ℕ) (z : ℤ) (one other : Data) → option_and_then as_object (field (codes "users") one) ≡ None → some_other_user sender z one other ≡ false
unfolding some_other_user
some_other_user-none sender z one other h = altered-none (λ user level. not (bytes_eq user sender) && is_at_or_above z level) (field (codes "users") one) (field (codes "users") other) h
