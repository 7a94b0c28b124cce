use Rattle.std.proofs.Common.{◌≡◌, ◌-◌, ◌^◌, ℕ, ap, ◌∙◌, arith}
use Rattle.std.proofs.lemmas.Nat.Bits.{ones_shr}
use Rattle.mx_state_res.proofs.chains.state_sets.StateSet.every.Goals as goal

pub returns : goal.returns
returns c =
    let states : ℕ = c.args.states in
    let same : 64 - (64 - states) ≡ states = omega (arith, c.requires) in
    ones_shr 64 (64 - states) (omega arith) ∙ ap (λ n. 2 ^ n - 1) same
