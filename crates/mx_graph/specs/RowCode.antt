-- For proofs and private clauses alone.
-- Codes for rows.
use Rattle.std.specs.Prelude.{ℕ, Bool, List, refl}
use Rattle.std.specs.Coded.{Coded, code_by, coded×, coded_ℕ, coded_bool, coded_list}
use Rattle.mx_redact.specs.Fields.{Event}
use Rattle.mx_pdu.specs.DataCode.{data_code}
use Rattle.mx_graph.specs.Record.{Row}

abbrev pub row_code : Coded Row
row_code =
    code_by (List ℕ × (Event × Bool)) (coded× (coded_list coded_ℕ) (coded× data_code coded_bool))
    (λ r. (r.id, (r.event, r.rejected))) (λ p. record { id = p.0; event = p.1.0; rejected = p.1.1 }) (λ _. refl)

abbrev pub rows_code : Coded (List Row)
rows_code = coded_list row_code
