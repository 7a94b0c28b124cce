use Rattle.std.proofs.Common.{[]}
use Rattle.mx_redact.proofs.digests.hashed_text.Goals as goal

pub returns : goal.returns
returns c = c.in_ok-bytes.ensures.ok _ (c.write_hashed.ensures [] c.in_ok-buffer.ensures.text)
