use Rattle.mx_directory.proofs.LogDamageLemmas.{sum_is}
use Rattle.mx_directory.proofs.log_damage.frame_sum.Goals as goal

pub returns : goal.returns
returns c = sum_is _ _ _ _ _ _ _ c.number_at-is_big.ensures c.number_at-size.ensures c.checksum_of-front.ensures c.checksum_of.ensures
