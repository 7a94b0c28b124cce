use Rattle.std.proofs.Common.{List, ap, ◌∙◌}
use Rattle.mx_receipt.specs.Receipt.{Kept}
use Rattle.mx_page.specs.Page.{changes_after, changes_before, first_of, prevs, resolution_of}
use Rattle.mx_page.proofs.page_entries.parts_of.Goals as goal

pub returns : goal.returns
returns c =
    let p = c.args.number in
    let kept = c.timeline-timeline.ensures in
    record {
      line = c.in_ok-line.ensures;
      base = c.first_prev_event-base.ensures.first ∙ ap (λ (ks : List Kept). first_of (prevs ks p)) kept;
      before = c.in_ok-before.ensures ∙ ap (λ (ks : List Kept). changes_before ks p) kept;
      after = c.in_ok-after.ensures ∙ ap (λ (ks : List Kept). changes_after ks p) kept;
      resolution = c.in_ok-resolution.ensures ∙ ap (λ (ks : List Kept). resolution_of ks p) kept;
    }
