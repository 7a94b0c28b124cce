use Rattle.mx_directory.proofs.LogDamageLemmas.{head_is}
use Rattle.mx_directory.proofs.log_damage.has_head.Goals as goal

pub returns : goal.returns
returns c = head_is _ _ _ _ _ c.number_at-magic.ensures c.checksum_of-sum.ensures c.sum_at.ensures c.same_sum.ensures
