-- For proofs and private clauses alone.
-- What a line of a file of rooms is answered.
use Rattle.std.specs.Prelude.{ℕ, ◌≡◌, ◌⊎◌, Bool, false, List}
use Rattle.mx_redact.specs.Fields.{Event}
use Rattle.mx_pdu.specs.declared.offering.Offered.{Offered}
use Rattle.mx_world.specs.View.{WorldView}
use Rattle.mx_world.specs.Worlds.{Stays}
use Rattle.mx_world.specs.declared.steps.StepReply.{StepReply}
use Rattle.mx_log.specs.HostLines.{IsHosting, asks_to_host, tells_hosted}
use Rattle.mx_log.specs.Lines.{read_line}
use Rattle.mx_log.specs.declared.answers.LineAnswer.{LineAnswer}
use Rattle.mx_log.specs.declared.answers.LineAnswer.TheVariants.{Step}

abbrev pub answer_hosts : LineAnswer → Bool
answer_hosts (Step reply) = tells_hosted reply
answer_hosts _ = false

-- the answer is the reply to a hosting, or the line asks for none, and nothing is done
abbrev pub IsHostAnswer : {K L : Type 0} → (Event → Offered) → (text : List ℕ) → LineAnswer → (old new : WorldView K L) → Type 0
IsHostAnswer offer text answer old new =
    ((reply : StepReply) × ((answer ≡ Step reply) × IsHosting offer text reply old new))
    ⊎ ((answer_hosts answer ≡ false) × ((asks_to_host (read_line offer text) ≡ false) × Stays old new))
