use Rattle.std.proofs.Common.{length, ap, sym, ◌∙◌, arith}
use Rattle.std.specs.Prelude.{is_some}
use Rattle.mx_states.specs.Numbered.{state_at}
use Rattle.mx_state_res.proofs.KeptResolutionLemmas.{one-entry}
use Rattle.mx_state_res.proofs.kept_resolutions.one_more.differ_there.Goals as goal

pub returns : goal.returns
returns c =
    let one = ap length c.entries.ensures.entries in
    let d = c.in_ok-differing.differing in
    λ there key other.
    sym ((c.in_ok-differing.ensures key).0 (one-entry d (c.args.kind.now, c.args.state_key.now) key (omega arith)
    (ap is_some (sym c.get.ensures) ∙ sym c.is_some.ensures ∙ there) other) 0 (state_at c.args.states.now c.args.other) (omega arith))
