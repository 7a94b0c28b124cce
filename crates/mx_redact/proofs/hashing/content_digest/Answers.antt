use Rattle.std.proofs.Common.{[]}
use Rattle.mx_redact.specs.Hashes.{content_hash}
use Rattle.mx_redact.proofs.hashing.content_digest.Goals as goal

pub returns : goal.returns
unfolding content_hash
returns c = c.finish.ensures _ (c.write_hashed.ensures [] c.new-hasher.ensures)
