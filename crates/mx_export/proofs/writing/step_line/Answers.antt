use Rattle.std.proofs.Common.{◌++◌, [], map, ap, ◌∙◌}
use Rattle.std.specs.Prelude.{codes}
use Rattle.mx_export.proofs.WritingLemmas.{seven}
use Rattle.mx_export.proofs.writing.step_line.Goals as goal

pub returns : goal.returns
returns c =
    seven [] (codes "{\"origin\":") c.args.name.now.origin.items (codes ",\"step\":\"") c.args.step.now (codes "\",\"txn\":") c.args.name.now.number.items (codes "}\n")
    c.extend_from_slice.new.self.items c.extend_from_slice-2.new.self.items c.extend_from_slice-3.new.self.items c.extend_from_slice-4.new.self.items c.extend_from_slice-5.new.self.items c.extend_from_slice-6.new.self.items c.extend_from_slice-7.new.self.items
    (c.in_ok-extend_from_slice.ensures.items ∙ ap (λ t. t ++ codes "{\"origin\":") c.new-line.ensures.items) (c.in_ok-extend_from_slice-2.ensures.items ∙ ap (λ t. c.extend_from_slice.new.self.items ++ t) c.deref.ensures.value) c.in_ok-extend_from_slice-3.ensures.items c.in_ok-extend_from_slice-4.ensures.items
    c.in_ok-extend_from_slice-5.ensures.items (c.in_ok-extend_from_slice-6.ensures.items ∙ ap (λ t. c.extend_from_slice-5.new.self.items ++ t) c.deref-2.ensures.value) c.in_ok-extend_from_slice-7.ensures.items
