use Rattle.std.proofs.Common.{◌++◌, ap, ◌∙◌}
use Rattle.std.specs.Prelude.{codes}
use Rattle.mx_canon.specs.Canonical.{canonical_text}
use Rattle.mx_export.proofs.WritingLemmas.{three}
use Rattle.mx_export.proofs.writing.write_host.Goals as goal

pub returns : goal.returns
returns c =
    three c.args.out.now.items (codes "{\"event\":") (canonical_text c.args.create.now) (codes ",\"step\":\"host\"}\n") c.extend_from_slice.new.self.items c.extend_from_slice-2.new.self.items c.extend_from_slice-3.new.self.items
    c.in_ok-extend_from_slice.ensures.items (c.in_ok-extend_from_slice-2.ensures.items ∙ ap (λ t. c.extend_from_slice.new.self.items ++ t) c.text.ensures) c.in_ok-extend_from_slice-3.ensures.items
