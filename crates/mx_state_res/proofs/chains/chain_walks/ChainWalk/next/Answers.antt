use Rattle.std.proofs.Common.{◌≡◌, length, Option, Some, None, IfNone, sym, ◌∙◌, arith}
use Rattle.mx_state_res.proofs.MaskLemmas.{empty-settled, none-listed, some-listed, empty-keys, taken-kept, taken-is}
use Rattle.mx_state_res.proofs.chains.chain_walks.ChainWalk.next.Goals as goal

pub returns-then-is_empty-clause-settled : goal.returns-then-is_empty-clause-settled
returns-then-is_empty-clause-settled c = none-listed c.args.self.now.states c.args.self.now.masks c.args.self.now.unsettled c.requires (empty-keys c.args.self.now.unsettled.keys (c.is_empty.ensures.0 (c.if-is_empty.true)))

at_none : {T P : Type 0} (o : Option T) → P → IfNone o P
at_none None p = p
at_none (Some x) p = tt

pub returns-in_err-event-clause-settled : goal.returns-in_err-event-clause-settled
returns-in_err-event-clause-settled c = at_none c.from_residual.result (empty-settled c.args.self.now.masks (λ l. absurd (cc (c.in_err-event.ensures.variant.1 l))))

pub returns-clause-kept : goal.returns-clause-kept
returns-clause-kept c =
    taken-kept c.args.self.now.states c.args.self.now.masks c.pop_last.new.self c.args.self.now.unsettled c.remove.new.self c.in_ok-event.event c.in_ok-event.mask c.requires
    c.in_ok-event.ensures.value c.in_ok-event.ensures.greatest c.in_ok-event.ensures.updates.0 c.remove.ensures.updates.0

pub returns-clause-taken : goal.returns-clause-taken
returns-clause-taken c =
    taken-is c.args.self.now.states c.args.self.now.masks c.pop_last.new.self c.args.self.now.unsettled c.remove.new.self c.in_ok-event.event c.in_ok-event.mask c.requires
    c.in_ok-event.ensures.value c.in_ok-event.ensures.greatest c.in_ok-event.ensures.updates.0 c.remove.ensures.updates.0

pub returns-clause-wide : goal.returns-clause-wide
returns-clause-wide c = let long : length c.in_ok-event.mask.items ≡ c.args.self.now.states = c.requires.wide c.in_ok-event.event c.in_ok-event.mask c.in_ok-event.ensures.value in omega (arith, c.in_ok-event.mask.ok.0)

pub returns-clause-unsettled : goal.returns-clause-unsettled
returns-clause-unsettled c = some-listed c.args.self.now.states c.args.self.now.masks c.args.self.now.unsettled c.requires (λ e. absurd (cc (sym c.if-is_empty.false ∙ c.is_empty.ensures.1 e)))
