-- For proofs and private clauses alone.
-- Codes for what is kept of a room, so that a model's value can hold it.
use Rattle.std.specs.Prelude.{◌≡◌, ℕ, zero, suc, List, refl}
use Rattle.std.specs.Coded.{Coded, code_by, coded×, coded_ℕ, coded_list}
use Rattle.mx_redact.specs.Fields.{Event}
use Rattle.mx_pdu.specs.DataCode.{data_code}
use Rattle.mx_auth.specs.RuleCode.{rule_code}
use Rattle.mx_auth.specs.declared.refusals.Rule.{Rule}
use Rattle.mx_auth.specs.declared.refusals.Rule.TheVariants.{StateWithoutCreate}
use Rattle.mx_graph.specs.Record.{Row}
use Rattle.mx_graph.specs.RowCode.{rows_code}
use Rattle.mx_graph.specs.StateMap.{State}
use Rattle.mx_receipt.specs.Receipt.{Kept}
use Rattle.mx_receipt.specs.declared.verdicts.Verdict.{Verdict}
use Rattle.mx_receipt.specs.declared.verdicts.Verdict.TheVariants.{Accepted, SoftFailed, Rejected}

-- 0 is accepted, 1 soft failed, 2 rejected
abbrev pub verdict_parts : Verdict → ℕ × Rule
verdict_parts Accepted = (0, StateWithoutCreate)
verdict_parts (SoftFailed rule) = (1, rule)
verdict_parts (Rejected rule) = (2, rule)

abbrev pub verdict_of : ℕ × Rule → Verdict
verdict_of (zero, rule) = Accepted
verdict_of (suc zero, rule) = SoftFailed rule
verdict_of (suc (suc n), rule) = Rejected rule

pub verdict_of-parts : (v : Verdict) → verdict_of (verdict_parts v) ≡ v
verdict_of-parts Accepted = refl
verdict_of-parts (SoftFailed rule) = refl
verdict_of-parts (Rejected rule) = refl

abbrev pub verdict_code : Coded Verdict
verdict_code = code_by (ℕ × Rule) (coded× coded_ℕ rule_code) verdict_parts verdict_of verdict_of-parts

abbrev pub kept_code : Coded Kept
kept_code =
    code_by (List ℕ × (Event × Verdict)) (coded× (coded_list coded_ℕ) (coded× data_code verdict_code))
    (λ k. (k.id, (k.event, k.verdict))) (λ p. record { id = p.0; event = p.1.0; verdict = p.1.1 }) (λ _. refl)

abbrev pub record_code : Coded (List Kept)
record_code = coded_list kept_code

abbrev pub state_code : Coded State
state_code = coded_list (coded× (coded× (coded_list coded_ℕ) (coded_list coded_ℕ)) coded_ℕ)

abbrev pub state_in_graph_code : Coded (List Row × State)
state_in_graph_code = coded× rows_code state_code

abbrev pub events_in_graph_code : Coded (List Row × List ℕ)
events_in_graph_code = coded× rows_code (coded_list coded_ℕ)
