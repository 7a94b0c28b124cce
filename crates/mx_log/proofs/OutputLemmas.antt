-- The lines that answer the steps of a log, piece by piece.
use Rattle.std.proofs.Common.{◌≡◌, ℕ, List, ◌++◌, codes, append_assoc}
use Rattle.std.specs.Str.{chars}
use Rattle.mx_log.specs.LineOutputs.{with_body}
use Rattle.mx_requests.proofs.ReplyLemmas.{with_first}

pub around : (taken key body : List ℕ) → with_first taken key body ++ codes "}" ≡ taken ++ with_body key body
unfolding chars
around taken key body = simp (append_assoc)
