-- The lines of a file of rooms that a server is to host (our own).
use Rattle.std.specs.Prelude.{ℕ, ◌≡◌, ◌⊎◌, Bool, true, false, List, [], ◌∷◌, ◌++◌}
use Rattle.mx_redact.specs.Fields.{Event}
use Rattle.mx_shard.specs.declared.answers.Answer.{Answer}
use Rattle.mx_shard.specs.declared.answers.Answer.TheVariants.{Hosted, AlreadyHosted}
use Rattle.mx_world.specs.Calls.{Start, record_after}
use Rattle.mx_pdu.specs.declared.offering.Offered.{Offered}
use Rattle.mx_world.specs.Replies.{IsReply, status_after}
use Rattle.mx_world.specs.View.{WorldView}
use Rattle.mx_world.specs.Worlds.{IsAfter, Stays}
use Rattle.mx_world.specs.declared.steps.Step.{Step}
use Rattle.mx_world.specs.declared.steps.Step.TheVariants.{Host}
use Rattle.mx_world.specs.declared.steps.StepReply.{StepReply}
use Rattle.mx_world.specs.declared.steps.StepReply.TheVariants.{OfRoom}
use Rattle.mx_step_replies.specs.Steps.{host_step}
use Rattle.mx_log.specs.Lines.{Line, read_line, step_line}

abbrev pub answers_hosted : Answer → Bool
answers_hosted (Hosted id) = true
answers_hosted (AlreadyHosted id) = true
answers_hosted _ = false

-- a reply tells that its room is hosted, now or before
abbrev pub tells_hosted : StepReply → Bool
tells_hosted (OfRoom answer) = answers_hosted answer
tells_hosted _ = false

-- a server does a step after any others, and this is its reply
abbrev pub IsNext : {K L : Type 0} → (old new : WorldView K L) → Step → StepReply → Type 0
IsNext old new step reply = (start : Start) (earlier : List Step) → IsAfter start earlier old
    → IsReply (record_after start earlier) (status_after start earlier) step reply × IsAfter start (earlier ++ step ∷ []) new

-- a line asks to host a room by an event, and this is the reply to that step
pub record IsHosting {K L : Type 0} (offer : Event → Offered) (text : List ℕ) (reply : StepReply) (old new : WorldView K L) : Type 0 where
  pub event : Offered
  pub line : read_line offer text ≡ step_line (host_step event)
  pub next : IsNext old new (Host event) reply

-- the room of a line is hosted, by it or before it
abbrev pub HostsRoom : {K L : Type 0} → (Event → Offered) → (text : List ℕ) → (old new : WorldView K L) → Type 0
HostsRoom offer text old new = (reply : StepReply) × (IsHosting offer text reply old new × (tells_hosted reply ≡ true))

-- a line asks to host a room by a well-formed event
abbrev pub asks_to_host : Line → Bool
asks_to_host (step_line (host_step event)) = true
asks_to_host _ = false

-- a line hosts no room: it does not ask for that, and nothing is done for it, or the reply tells that the room is not hosted
abbrev pub HostsNone : {K L : Type 0} → (Event → Offered) → (text : List ℕ) → (old new : WorldView K L) → Type 0
HostsNone offer text old new =
    ((asks_to_host (read_line offer text) ≡ false) × Stays old new)
    ⊎ ((reply : StepReply) × (IsHosting offer text reply old new × (tells_hosted reply ≡ false)))
