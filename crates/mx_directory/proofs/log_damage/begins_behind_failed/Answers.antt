use Rattle.std.proofs.Common.{◌∙◌, ◌+◌, ◌*◌, refl, sym, ap, add-one}
use Rattle.sqlite_wal.specs.Format.{stored_sum}
use Rattle.mx_directory.specs.LogDamage.{sum_before, fails_within, begins_behind}
use Rattle.mx_directory.proofs.LogDamageLemmas.{whole_is, fails_step, begins_step}
use Rattle.mx_directory.proofs.log_damage.begins_behind_failed.Goals as goal

pub loop-number-init : goal.loop-number-init
unfolding fails_within begins_behind
loop-number-init c = (c.sum_at-before.ensures, refl, refl)

pub loop-number-preserved : goal.loop-number-preserved
loop-number-preserved c =
    let n = c.loop-number.number in
    let log = c.args.log.now in
    let more = sym (add-one n) in
    let so_far = c.loop-number.invariant in
    let at = ap (λ s. 32 + n * (24 + s)) c.number_at.ensures in
    let whole = whole_is log n _ _ _ at so_far.0 c.is_whole_at-is_whole.ensures in (
      c.sum_at-before-in-loop-number.ensures ∙ ap (λ it. stored_sum log (it + 16)) at ∙ ap (sum_before log) more,
      fails_step log n _ _ so_far.1 whole ∙ ap (fails_within log) more,
      begins_step log n _ _ _ _ _ at so_far.1 so_far.2 whole c.number_at-in-loop-number.ensures ∙ ap (begins_behind log) more,
    )
