-- What is told of the events of a room (Matrix specification, Server-Server API, checks performed on receipt of a PDU).
use Rattle.std.specs.Prelude.{ℕ, zero, suc, List, take, slice_get, Option, None, option_map}
use Rattle.mx_pdu.specs.StateKeys.{Key}
use Rattle.mx_receipt.specs.Receipt.{Kept, kept_at}
use Rattle.mx_audit.specs.Explaining.{deciding_check, entries_asked}
use Rattle.mx_audit.specs.declared.checks.FailedCheck.{FailedCheck}
use Rattle.mx_audit.specs.declared.explaining.Explanation.{Explanation}

-- the number of an event, the check that it failed, and what stood in the state that decided
pub record Told : Type 0 where
  pub number : ℕ
  pub failed : Option FailedCheck
  pub asked : List (Key × Option ℕ)

abbrev pub told_shown : Explanation → Told
told_shown e = record { number = e.number; failed = e.failed; asked = e.asked.items }

-- of an event of a record, by the events that came before it
abbrev pub told_at : List Kept → ℕ → Told
told_at kept p =
    let before = take p kept in
    let e = (kept_at kept p).event in
    record { number = p; failed = deciding_check before e; asked = entries_asked before e }

-- of each event but the create event, which begins the room
abbrev pub told : List Kept → ℕ → Option Told
told kept zero = None
told kept (suc p) = option_map (λ _. told_at kept (suc p)) (slice_get kept (suc p))
