use Rattle.std.proofs.Common.{◌≡◌, ◌∙◌, slice_index}
use Rattle.mx_export.specs.Arranging.{IsHeld}
use Rattle.mx_export.proofs.LeftLemmas.{all-more}
use Rattle.mx_export.proofs.arranging.settle_all.Goals as goal

pub loop-place-preserved : goal.loop-place-preserved
loop-place-preserved c =
    let h = c.loop-place.invariant in
    let e = c.in_ok-settle.ensures in
    record {
      sound = e.sound;
      written = e.written ∙ h.written;
      held = all-more c.args.places.now c.loop-place.place-index (IsHeld c.settle.new.arranging) c.loop-place-test.true (λ p k. e.kept p (h.held p k)) e.held;
      kept = λ p k. e.kept p (h.kept p k);
    }
