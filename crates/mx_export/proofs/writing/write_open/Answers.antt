use Rattle.std.proofs.Common.{◌++◌, map, ap, ◌∙◌}
use Rattle.std.specs.Prelude.{codes}
use Rattle.std.specs.List.{join_with_byte}
use Rattle.mx_canon.specs.Canonical.{canonical_text}
use Rattle.mx_export.proofs.WritingLemmas.{seven}
use Rattle.mx_export.proofs.writing.write_open.Goals as goal

pub returns : goal.returns
returns c =
    seven c.args.out.now.items (codes "{\"origin\":") c.args.name.now.origin.items (codes ",\"pdus\":[") (join_with_byte 44 (map canonical_text c.args.events.now)) (codes "],\"step\":\"open\",\"txn\":") c.args.name.now.number.items (codes "}\n")
    c.extend_from_slice.new.self.items c.extend_from_slice-2.new.self.items c.extend_from_slice-3.new.self.items c.write_events.new.out.items c.extend_from_slice-4.new.self.items c.extend_from_slice-5.new.self.items c.extend_from_slice-6.new.self.items
    c.in_ok-extend_from_slice.ensures.items (c.in_ok-extend_from_slice-2.ensures.items ∙ ap (λ t. c.extend_from_slice.new.self.items ++ t) c.deref.ensures.value) c.in_ok-extend_from_slice-3.ensures.items c.in_ok-write_events.ensures
    c.in_ok-extend_from_slice-4.ensures.items (c.in_ok-extend_from_slice-5.ensures.items ∙ ap (λ t. c.extend_from_slice-4.new.self.items ++ t) c.deref-2.ensures.value) c.in_ok-extend_from_slice-6.ensures.items
