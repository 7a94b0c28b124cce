use Rattle.std.proofs.Common.{[]}
use Rattle.mx_log.proofs.answers.step_texts.body_line.Goals as goal

pub returns : goal.returns
returns c = c.in_ok-bytes.ensures.ok _ (c.write_body.ensures [] c.new-line.ensures.text)
