-- For proofs and private clauses alone.
-- Codes for states that are judged and worked on.
use Rattle.std.specs.Prelude.{ℕ, List}
use Rattle.std.specs.Coded.{Coded, coded×, coded_ℕ}
use Rattle.mx_auth.specs.declared.versions.RoomVersion.{RoomVersion}
use Rattle.mx_auth.specs.RuleCode.{version_code}
use Rattle.mx_graph.specs.Record.{Row}
use Rattle.mx_graph.specs.RowCode.{rows_code}
use Rattle.mx_graph.specs.StateMap.{State}
use Rattle.mx_states.specs.StateCode.{state_code}

abbrev pub judged_code : Coded (List Row × (State × (ℕ × RoomVersion)))
judged_code = coded× rows_code (coded× state_code (coded× coded_ℕ version_code))

abbrev pub edit_code : Coded (State × (State × State))
edit_code = coded× state_code (coded× state_code state_code)
