use Rattle.std.proofs.Common.{Some}
use Rattle.mx_event_reading.proofs.open_texts.any_member_if.Goals as goal

pub returns-in_ok-any_member : goal.returns-in_ok-any_member
returns-in_ok-any_member c = let (d, m) = c.in_ok-any_member.ensures in (Some d, m)
