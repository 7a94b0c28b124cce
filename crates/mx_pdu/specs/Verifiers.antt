-- Whether signatures are there, without keys to check them with (Matrix specification, appendix Signing JSON).
use Rattle.std.specs.Prelude.{ℕ, Bool, not, List, [], ◌∷◌}
use Rattle.std.specs.List.{list_any}
use Rattle.serde_json.specs.Data.{Data, Members, no_members, member}
use Rattle.serde_json.specs.Find.{as_str}
use Rattle.mx_ident.specs.Identifier.{is_empty}
use Rattle.mx_redact.specs.Fields.{is_some_and, members_of, value_at}

abbrev pub values_of : Members → List Data
values_of no_members = []
values_of (member k d ms) = d ∷ values_of ms

-- a text that is not empty
abbrev pub is_signature : Data → Bool
is_signature d = is_some_and (λ s. not (is_empty s)) (as_str d)

-- under the server stands an object with a value that is a signature
abbrev pub is_signed_by : List ℕ → Data → Bool
is_signed_by server signatures = list_any is_signature (values_of (members_of (value_at server signatures)))
