-- Transactions that are given up.
use Rattle.std.proofs.Common.{◌≡◌, false, if◌then◌else◌, refl, sym, ap, ◌∙◌, subst}
use Rattle.std.proofs.lemmas.Bool.{true≢false}
use Rattle.mx_book.specs.declared.transaction_keys.TransactionKey.{TransactionKey}
use Rattle.mx_book.proofs.JournalLemmas.{same-self}
use Rattle.mx_world.specs.Moves.{after_abandon}
use Rattle.mx_world.specs.Replies.{Status, unopened, waiting, ended}
use Rattle.mx_world.specs.View.{WorldView}
use Rattle.mx_world.specs.Worlds.{AtTransaction, Stays, status_in}
use Rattle.mx_world.specs.declared.steps.Step.{Step}
use Rattle.mx_world.specs.declared.steps.Step.TheVariants.{Host, Open, Next, Close, Join, Ask}
use Rattle.mx_log.specs.LineRuns.{IsGivenUp, is_waiting}

closed : (status : Status) → is_waiting (after_abandon status) ≡ false
closed unopened = refl
closed (waiting rest told) = refl
closed (ended body) = refl

-- a transaction that was given up is not open
pub not_open : {K L : Type 0} (key : TransactionKey) (old new : WorldView K L) → AtTransaction (status_in old) (status_in new) key after_abandon
    → is_waiting (status_in new key) ≡ false
not_open key old new given =
    ap is_waiting (given key ∙ ap (λ b. if b then after_abandon (status_in old key) else status_in old key) (same-self key)) ∙ closed (status_in old key)

-- so the step that opened it left none open
pub given_up : {K L : Type 0} (x : Step) (key : TransactionKey) (events : _) (old new : WorldView K L) → x ≡ Open key events
    → is_waiting (status_in new key) ≡ false → IsGivenUp x old new
given_up x key events old new is closed = subst (λ step. IsGivenUp step old new) (sym is) (λ still. absurd (true≢false (sym still ∙ closed)))

-- nor does a first step that was refused leave one open
pub stayed : {K L : Type 0} (x : Step) (old new : WorldView K L) → Stays old new → IsGivenUp x old new
stayed (Host o) old new stays = tt
stayed (Open key events) old new stays = λ still. ap is_waiting (sym (stays.statuses key)) ∙ still
stayed (Next key) old new stays = tt
stayed (Close key) old new stays = tt
stayed (Join origin o) old new stays = tt
stayed (Ask origin now q) old new stays = tt
