use Rattle.std.proofs.Common.{[], ap, ◌∙◌}
use Rattle.mx_page.specs.Escaping.{escaped}
use Rattle.mx_page.proofs.data_parts.data_start.Goals as goal

pub returns : goal.returns
returns c = c.in_ok-text.ensures ∙ ap escaped (c.deref.ensures.value ∙ c.in_ok-bytes.ensures.ok _ (c.write_start.ensures [] c.new-start.ensures.text))
