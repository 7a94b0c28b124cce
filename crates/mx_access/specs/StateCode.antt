-- For proofs and private clauses alone.
-- A code for a room's record with a state, so that a model's value can hold them.
use Rattle.std.specs.Prelude.{List}
use Rattle.std.specs.Coded.{Coded, coded×}
use Rattle.mx_graph.specs.StateMap.{State}
use Rattle.mx_receipt.specs.Receipt.{Kept}
use Rattle.mx_receipt.specs.KeptCode.{record_code, state_code}

abbrev pub state_in_room_code : Coded (List Kept × State)
state_in_room_code = coded× record_code state_code
