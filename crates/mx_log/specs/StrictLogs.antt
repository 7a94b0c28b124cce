-- Logs that are answered up to their first bad line (our own).
use Rattle.std.specs.Prelude.{ℕ, suc, ◌≡◌, Bool, true, false, if◌then◌else◌, List, [], ◌∷◌, Option, None, Some}
use Rattle.mx_redact.specs.Fields.{Event}
use Rattle.mx_pdu.specs.Offers.{Judge, offer_by}
use Rattle.mx_pdu.specs.declared.offering.Offered.{Offered}
use Rattle.mx_log.specs.LineSteps.{AreRun, Exchange, nothing_yet}
use Rattle.mx_log.specs.Lines.{Line, bad_line, malformed_host, step_line, call_line, lines_of, read_line}
use Rattle.mx_log.specs.declared.strict_logs.BadLine.{BadLine}

-- it is of no form
abbrev pub is_bad : Line → Bool
is_bad bad_line = true
is_bad malformed_host = false
is_bad (step_line step) = false
is_bad (call_line now r) = false

-- the first bad one of lines that are numbered from this number, with its own
abbrev pub first_bad : (Event → Offered) → ℕ → List (List ℕ) → Option (ℕ × List ℕ)
first_bad offer n [] = None
first_bad offer n (text ∷ rest) = if is_bad (read_line offer text) then Some (n, text) else first_bad offer (suc n) rest

-- the lines up to the first bad one, that one too
abbrev pub up_to_bad : (Event → Offered) → List (List ℕ) → List (List ℕ)
up_to_bad offer [] = []
up_to_bad offer (text ∷ rest) = text ∷ (if is_bad (read_line offer text) then [] else up_to_bad offer rest)

abbrev pub bad_shown : BadLine → ℕ × List ℕ
bad_shown bad = (bad.number, bad.text.items)

-- this is the first bad line of an input, or there is none, and a new server under its name writes this for the lines up to it
abbrev pub IsAnsweredToBad : Judge → List ℕ → List ℕ → List ℕ → Option (ℕ × List ℕ) → Type 0
IsAnsweredToBad judges server input output bad =
    (bad ≡ first_bad (offer_by judges) 1 (lines_of input))
    × (xs : List Exchange) × AreRun nothing_yet (offer_by judges) server (up_to_bad (offer_by judges) (lines_of input)) output xs
