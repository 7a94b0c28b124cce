use Rattle.std.proofs.Common.{◌∙◌}
use Rattle.mx_state_res.proofs.SetLemmas.{search-is}
use Rattle.mx_state_res.proofs.conflicts.rising_lists.stands_in.Goals as goal

pub returns : goal.returns
returns c = c.is_ok.ensures.value ∙ search-is c.args.events.now c.args.event c.binary_search.result c.requires c.binary_search.ensures.position
