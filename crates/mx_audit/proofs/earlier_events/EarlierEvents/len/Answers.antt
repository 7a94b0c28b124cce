use Rattle.std.proofs.Common.{length, ap, ◌∙◌}
use Rattle.mx_audit.proofs.EarlierLemmas.{count-earlier}
use Rattle.mx_audit.proofs.earlier_events.EarlierEvents.len.Goals as goal

pub returns : goal.returns
returns c = c.index.ensures.index ∙ count-earlier c.self.inside.timeline.now.kept c.self.inside.next c.self.invariant.1 ∙ ap length c.self.view_is
