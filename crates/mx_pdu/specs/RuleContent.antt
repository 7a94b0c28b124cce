-- What is kept of an event's content beside its text (Matrix specification, Room Version 6, authorization rules;
-- Client-Server API, history visibility; Server-Server API, server access control lists).
use Rattle.std.specs.Prelude.{ℕ, Bool, List, ◌++◌}
use Rattle.serde_json.specs.Data.{Data, object}
use Rattle.mx_redact.specs.Fields.{words, members_of}
use Rattle.mx_redact.specs.Redaction.{is_among, members_where}

-- the keys of contents that the rules, the power levels, the visibility and the access lists read
abbrev pub rule_keys : List (List ℕ)
rule_keys =
    words "creator room_version m.federate membership third_party_invite join_rule history_visibility"
    ++ words "allow deny allow_ip_literals"
    ++ words "users users_default events events_default state_default ban kick redact invite notifications"

abbrev pub is_rule_key : List ℕ → Bool
is_rule_key k = is_among rule_keys k

-- a content's members at these keys
abbrev pub rule_content : Data → Data
rule_content d = object (members_where is_rule_key (members_of d))
