-- For proofs and private clauses alone.
-- A code for a record with some of its events, so that a model's value can hold it.
use Rattle.std.specs.Prelude.{ℕ, List}
use Rattle.std.specs.Coded.{Coded, coded×, coded_ℕ, coded_list}
use Rattle.mx_receipt.specs.Receipt.{Kept}
use Rattle.mx_receipt.specs.KeptCode.{record_code}

abbrev pub events_in_record_code : Coded (List Kept × List ℕ)
events_in_record_code = coded× record_code (coded_list coded_ℕ)
