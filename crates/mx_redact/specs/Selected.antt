-- Parts of an event, each by one filter, for private clauses.
use Rattle.std.specs.Prelude.{ℕ, Bool, false, not, ◌&&◌, List, codes, bytes_eq, if◌then◌else◌, Option, Some, None}
use Rattle.serde_json.specs.Data.{Data, null, boolean, number, string, array, object, Members, no_members, member}
use Rattle.mx_redact.specs.Fields.{words}
use Rattle.mx_redact.specs.Redaction.{is_among, kept_keys, members_where}
use Rattle.mx_redact.specs.declared.kinds.KeptContent.{KeptContent}
use Rattle.mx_redact.specs.declared.kinds.KeptContent.TheVariants.{Member, Create, JoinRules, PowerLevels, HistoryVisibility, Nothing}
use Rattle.mx_redact.specs.declared.selections.Selection.{Selection}
use Rattle.mx_redact.specs.declared.selections.Selection.TheVariants.{Hashed, Redacted, Signed, Content}

abbrev pub kept_content_of : List ℕ → KeptContent
kept_content_of type =
    if bytes_eq type (codes "m.room.member") then Member else (
    if bytes_eq type (codes "m.room.create") then Create else (
    if bytes_eq type (codes "m.room.join_rules") then JoinRules else (
    if bytes_eq type (codes "m.room.power_levels") then PowerLevels else (
    if bytes_eq type (codes "m.room.history_visibility") then HistoryVisibility else Nothing))))

abbrev pub is_kept_content : KeptContent → List ℕ → Bool
is_kept_content Member k = is_among (words "membership") k
is_kept_content Create k = is_among (words "creator") k
is_kept_content JoinRules k = is_among (words "join_rule") k
is_kept_content PowerLevels k = is_among (words "ban events events_default kick redact state_default users users_default") k
is_kept_content HistoryVisibility k = is_among (words "history_visibility") k
is_kept_content Nothing k = false

-- a key of an event, or of its content, is in a part
abbrev pub is_in_part : Selection → List ℕ → Bool
is_in_part Hashed k = not (is_among (words "unsigned signatures hashes") k)
is_in_part (Redacted kept) k = is_among kept_keys k
is_in_part (Signed kept) k = is_among kept_keys k && not (is_among (words "signatures unsigned") k)
is_in_part (Content kept) k = is_kept_content kept k

-- what redaction keeps of a content; one that is no object stays as it is
abbrev pub kept_part : KeptContent → Data → Data
kept_part kept null = null
kept_part kept (boolean b) = boolean b
kept_part kept (number n) = number n
kept_part kept (string s) = string s
kept_part kept (array ds) = array ds
kept_part kept (object ms) = object (members_where (is_kept_content kept) ms)

-- what redaction keeps of the value at a key, where it keeps a part of it alone
abbrev pub inner_of : Selection → List ℕ → Option KeptContent
inner_of Hashed k = None
inner_of (Redacted kept) k = if bytes_eq k (codes "content") then Some kept else None
inner_of (Signed kept) k = if bytes_eq k (codes "content") then Some kept else None
inner_of (Content kept) k = None

abbrev pub part_by : Option KeptContent → Data → Data
part_by None d = d
part_by (Some kept) d = kept_part kept d

-- the value at a key, as it stands in a part
abbrev pub selected_value : Selection → List ℕ → Data → Data
selected_value s k d = part_by (inner_of s k) d

abbrev pub selected : Selection → Members → Members
selected s no_members = no_members
selected s (member k d ms) = if is_in_part s k then member k (selected_value s k d) (selected s ms) else selected s ms
