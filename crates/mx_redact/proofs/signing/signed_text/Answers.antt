use Rattle.std.proofs.Common.{[]}
use Rattle.mx_redact.specs.Hashes.{signing_text}
use Rattle.mx_redact.proofs.signing.signed_text.Goals as goal

pub returns : goal.returns
unfolding signing_text
returns c = c.in_ok-bytes.ensures.ok _ (c.write_signed.ensures [] c.in_ok-buffer.ensures.text)
