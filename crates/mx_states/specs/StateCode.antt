-- For proofs and private clauses alone.
-- Codes for states.
use Rattle.std.specs.Prelude.{List}
use Rattle.std.specs.Coded.{Coded, coded×, coded_ℕ, coded_list}
use Rattle.mx_graph.specs.StateMap.{State}

abbrev pub state_code : Coded State
state_code = coded_list (coded× (coded× (coded_list coded_ℕ) (coded_list coded_ℕ)) coded_ℕ)

abbrev pub states_code : Coded (List State)
states_code = coded_list state_code
