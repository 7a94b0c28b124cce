use Rattle.std.proofs.Common.{[], ap, ◌∙◌}
use Rattle.mx_canon.specs.Canonical.{string_text}
use Rattle.mx_export.proofs.writing.quoted.Goals as goal

pub returns : goal.returns
returns c = c.in_ok-bytes.ensures.ok _ (c.write_string.ensures [] c.new-buffer.ensures.text) ∙ ap string_text c.as_bytes.ensures.value
