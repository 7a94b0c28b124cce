use Rattle.std.proofs.Common.{[]}
use Rattle.mx_log.proofs.answers.step_texts.text_line.Goals as goal

pub returns : goal.returns
returns c = c.in_ok-bytes.ensures.ok _ (c.write_text_member.ensures [] c.new-line.ensures.text)
