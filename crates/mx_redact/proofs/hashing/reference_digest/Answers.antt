use Rattle.std.proofs.Common.{[]}
use Rattle.mx_redact.specs.Hashes.{signing_text}
use Rattle.mx_redact.proofs.hashing.reference_digest.Goals as goal

pub returns : goal.returns
unfolding signing_text
returns c = c.finish.ensures _ (c.write_signed.ensures [] c.new-hasher.ensures)
