-- Lines of a file of rooms.
use Rattle.std.proofs.Common.{◌≡◌, ◌∙◌, ℕ, List, sym, ap, inl, inr}
use Rattle.std.specs.Prelude.{false}
use Rattle.mx_redact.specs.Fields.{Event}
use Rattle.mx_pdu.specs.declared.offering.Offered.{Offered}
use Rattle.mx_world.specs.View.{WorldView}
use Rattle.mx_log.specs.HostLines.{HostsNone}
use Rattle.mx_log.specs.HostAnswers.{IsHostAnswer, answer_hosts}
use Rattle.mx_log.specs.declared.answers.LineAnswer.{LineAnswer}

pub hosts_none : {K L : Type 0} (offer : Event → Offered) (text : List ℕ) (answer : LineAnswer) (old new : WorldView K L)
    → answer_hosts answer ≡ false → IsHostAnswer offer text answer old new → HostsNone offer text old new
hosts_none offer text answer old new not (inl (reply, (is, hosting))) = inr (reply, (hosting, sym (ap answer_hosts is) ∙ not))
hosts_none offer text answer old new not (inr (_, none)) = inl none
