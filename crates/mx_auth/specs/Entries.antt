-- Entries of maps of levels, compared, for private clauses.
use Rattle.std.specs.Prelude.{ℕ, ℤ, Bool, not, ◌&&◌, List, bytes_eq, Option, option_and_then, is_some}
use Rattle.serde_json.specs.Data.{object, Members}
use Rattle.mx_ident.specs.Identifier.{is_user_id}
use Rattle.mx_levels.specs.Level.{level_at}
use Rattle.mx_auth.specs.Rules.{same_level, is_above, is_at_or_above}

-- the level at a key of an object, none where there is no object
abbrev pub level_in : Option Members → List ℕ → Option ℤ
level_in entries key = option_and_then (λ ms. level_at key (object ms)) entries

-- an entry has another level among the others, or none there
abbrev pub is_altered : Members → Option Members → List ℕ → Bool
is_altered entries others key = not (same_level (level_at key (object entries)) (level_in others key))

-- the same, and it is above z
unfoldable pub is_altered_above : ℤ → Members → Option Members → List ℕ → Bool
is_altered_above z entries others key =
    is_altered entries others key && is_above z (level_at key (object entries))

-- the same, and it is another user's than the sender's, and at or above z
unfoldable pub is_other_user_altered : List ℕ → ℤ → Members → Option Members → List ℕ → Bool
is_other_user_altered sender z entries others key =
    is_altered entries others key && (not (bytes_eq key sender) && is_at_or_above z (level_at key (object entries)))

-- a user id, at which a level stands
unfoldable pub is_user_level : Members → List ℕ → Bool
is_user_level entries key = is_user_id key && is_some (level_at key (object entries))
