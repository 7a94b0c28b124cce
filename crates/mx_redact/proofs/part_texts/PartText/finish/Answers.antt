use Rattle.std.proofs.Common.{[], map, ◌∙◌}
use Rattle.std.specs.List.{join_with_byte}
use Rattle.mx_canon.specs.Canonical.{canonical_text, member_text, sorted_members}
use Rattle.mx_canon.proofs.PieceLemmas.{ended}
use Rattle.mx_redact.specs.PartTexts.{selection_of}
use Rattle.mx_redact.specs.Selected.{selected}
use Rattle.mx_redact.proofs.part_texts.PartText.finish.Goals as goal

pub returns : goal.returns
unfolding canonical_text
returns c = λ all had.
    let (out, has, is) = had in
    let whole = join_with_byte 44 (map member_text (sorted_members (selected (selection_of c.args.self.part) all))) in
    c.in_ok-bytes.ensures.ok _ (c.put.ensures out has) ∙ ended out [] whole c.args.self.later 123 125 is
