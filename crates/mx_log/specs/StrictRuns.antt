-- For proofs and private clauses alone.
-- Lines that were answered, none of which is bad but the last.
use Rattle.std.specs.Prelude.{ℕ, ◌≡◌, false, List, Option, None}
use Rattle.std.specs.Io.KnownBytes.{Appends}
use Rattle.mx_redact.specs.Fields.{Event}
use Rattle.mx_world.specs.Calls.{Start}
use Rattle.mx_world.specs.View.{WorldView}
use Rattle.mx_pdu.specs.declared.offering.Offered.{Offered}
use Rattle.mx_log.specs.LineOutputs.{has_refusal}
use Rattle.mx_log.specs.LineRuns.{AreAnswered}
use Rattle.mx_log.specs.LineSteps.{AreRun, Exchange}
use Rattle.mx_log.specs.StrictLogs.{first_bad, up_to_bad}

-- lines that were answered, of which none is bad where none is a refusal
pub record AreSound {K L : Type 0} (offer : Event → Offered) (server : List ℕ) (start : Start) (lines : List (List ℕ))
    (before after : Option (List ℕ)) (w : WorldView K L) : Type 0 where
  pub so_far : AreAnswered offer server start lines before after w
  pub none : has_refusal so_far.written ≡ false → first_bad offer 1 lines ≡ None

-- lines that were answered up to the first bad one, which is this one
pub record AreAnsweredToBad (offer : Event → Offered) (server : List ℕ) (start : Start) (lines : List (List ℕ))
    (before after : Option (List ℕ)) (bad : Option (ℕ × List ℕ)) : Type 0 where
  pub written : List ℕ
  pub appends : Appends before after written
  pub first : has_refusal written ≡ false → bad ≡ first_bad offer 1 lines
  pub run : has_refusal written ≡ false → (xs : List Exchange) × AreRun start offer server (up_to_bad offer lines) written xs
