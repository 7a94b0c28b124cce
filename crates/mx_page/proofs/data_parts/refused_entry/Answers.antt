use Rattle.std.proofs.Common.{[], ap, ◌∙◌}
use Rattle.mx_page.specs.Escaping.{escaped}
use Rattle.mx_page.proofs.data_parts.refused_entry.Goals as goal

pub returns : goal.returns
returns c = c.in_ok-text.ensures ∙ ap escaped (c.deref.ensures.value ∙ c.in_ok-bytes.ensures.ok _ (c.write_refused.ensures [] c.new-entry.ensures.text))
