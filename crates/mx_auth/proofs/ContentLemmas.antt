-- Power levels events, by what rules read of their contents.
use Rattle.std.proofs.Common.{◌≡◌, ℕ, refl, ap, ap₂, ◌∙◌, Bool, true, List, [], ◌∷◌}
use Rattle.std.specs.Prelude.{ℤ, not, ◌&&◌, ◌||◌, codes, bytes_eq, Option, unwrap_or, option_and_then}
use Rattle.std.specs.List.{list_any, list_all}
use Rattle.serde_json.specs.Data.{Data, null}
use Rattle.mx_redact.specs.Fields.{value_at, is_none_or, object_keys}
use Rattle.mx_pdu.specs.RuleContent.{is_rule_key, rule_content}
use Rattle.mx_pdu.proofs.FormatLemmas.{and-left, and-right}
use Rattle.mx_pdu.proofs.RuleContentLemmas.{field-rule_content}
use Rattle.mx_levels.specs.Level.{level_at, read_level}
use Rattle.mx_auth.specs.Rules.{same_level, is_above, is_at_or_above, alters_above, some_entry, some_above, some_other_user, has_sound_users, is_user_levels, checked_levels, Line, reject_if, change_lines}
use Rattle.mx_auth.specs.declared.refusals.Rule.TheVariants.{LevelChangedAboveSender, OldEntryAboveSender, NewEntryAboveSender, OldUserNotBelowSender, NewUserAboveSender}

pub has_sound_users-content : (c d : Data) → c ≡ rule_content d → has_sound_users c ≡ has_sound_users d
unfolding has_sound_users
has_sound_users-content c d is = ap has_sound_users is ∙ ap (is_none_or is_user_levels) (field-rule_content (codes "users") d refl)

value-content : (map : List ℕ) (d : Data) → is_rule_key map ≡ true → value_at map (rule_content d) ≡ value_at map d
value-content map d read = ap (λ o. unwrap_or o null) (field-rule_content map d read)

level-content : (key : List ℕ) (d : Data) → is_rule_key key ≡ true → level_at key (rule_content d) ≡ level_at key d
level-content key d read = ap (option_and_then read_level) (field-rule_content key d read)

-- two tests that agree at the keys that are read
any-content : (p q : List ℕ → Bool) → ((key : List ℕ) → is_rule_key key ≡ true → p key ≡ q key) → (keys : List (List ℕ)) → list_all is_rule_key keys ≡ true → list_any p keys ≡ list_any q keys
any-content p q same [] read = refl
any-content p q same (key ∷ keys) read =
    ap₂ (λ x y. x || y) (same key (and-left _ _ read)) (any-content p q same keys (and-right (is_rule_key key) _ read))

alters-content : (z : ℤ) (old new : Data) → list_any (alters_above z (rule_content old) (rule_content new)) checked_levels ≡ list_any (alters_above z old new) checked_levels
unfolding alters_above
alters-content z old new =
    any-content _ _
    (λ key read. ap₂ (λ a b. not (same_level a b) && (is_above z a || is_above z b)) (level-content key old read) (level-content key new read))
    checked_levels refl

entry-content : (refused : List ℕ → Option ℤ → Bool) (map : List ℕ) (one other : Data) → is_rule_key map ≡ true → some_entry refused map (rule_content one) (rule_content other) ≡ some_entry refused map one other
entry-content refused map one other read =
    ap₂ (λ a b. list_any (λ key. not (same_level (level_at key a) (level_at key b)) && refused key (level_at key a)) (object_keys a))
    (value-content map one read) (value-content map other read)

above-content : (z : ℤ) (map : List ℕ) (one other : Data) → is_rule_key map ≡ true → some_above z map (rule_content one) (rule_content other) ≡ some_above z map one other
unfolding some_above
above-content z map one other read = entry-content (λ key level. is_above z level) map one other read

user-content : (sender : List ℕ) (z : ℤ) (one other : Data) → some_other_user sender z (rule_content one) (rule_content other) ≡ some_other_user sender z one other
unfolding some_other_user
user-content sender z one other = entry-content (λ user level. not (bytes_eq user sender) && is_at_or_above z level) (codes "users") one other refl

abbrev change_by : Bool → Bool → Bool → Bool → Bool → Bool → Bool → List Line
change_by level event notification new_event new_notification user new_user =
    reject_if LevelChangedAboveSender level
    ∷ reject_if OldEntryAboveSender (event || notification)
    ∷ reject_if NewEntryAboveSender (new_event || new_notification)
    ∷ reject_if OldUserNotBelowSender user
    ∷ reject_if NewUserAboveSender new_user
    ∷ []

-- the same lines reject a change of content
change-content : (sender : List ℕ) (z : ℤ) (old new : Data) → change_lines sender z (rule_content old) (rule_content new) ≡ change_lines sender z old new
unfolding change_lines
change-content sender z old new =
    λ i. change_by (alters-content z old new i)
    (above-content z (codes "events") old new refl i) (above-content z (codes "notifications") old new refl i)
    (above-content z (codes "events") new old refl i) (above-content z (codes "notifications") new old refl i)
    (user-content sender z old new i) (above-content z (codes "users") new old refl i)

pub change_lines-content : (sender : List ℕ) (z : ℤ) (a b old new : Data) → a ≡ rule_content old → b ≡ rule_content new → change_lines sender z a b ≡ change_lines sender z old new
change_lines-content sender z a b old new before after = ap₂ (change_lines sender z) before after ∙ change-content sender z old new
