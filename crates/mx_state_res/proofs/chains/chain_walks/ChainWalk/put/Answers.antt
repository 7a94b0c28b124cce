use Rattle.std.proofs.Common.{◌≡◌, length, ap, ◌∙◌, arith}
use Rattle.std.specs.List.{list_all}
use Rattle.mx_state_res.specs.Masks.{has}
use Rattle.mx_state_res.proofs.MaskLemmas.{put-first, put-there, put-waits, put-kept}
use Rattle.mx_state_res.proofs.chains.chain_walks.ChainWalk.put.Goals as goal

pub returns-clause-kept : goal.returns-clause-kept
returns-clause-kept c =
    let joined = c.in_ok-joined.joined in
    let wide : length joined.items ≡ c.args.self.now.states = omega (arith, joined.ok.0, c.in_ok-joined.ensures.wide) in
    rw c.list.ensures.states
    (put-kept c.args.self.now.masks c.insert.new.self c.args.event joined (put-first c.args.event joined c.args.self.now.masks c.list.new.self.masks c.insert.new.self c.list.ensures.masks c.in_ok-insert.ensures.updates.0)
    c.args.self.now.states c.args.self.now.unsettled c.list.new.self.unsettled c.requires.kept wide
    c.is_full.result (c.is_full.ensures ∙ ap (list_all (λ b. b)) c.deref.ensures.value) c.in_ok-list.ensures.listed)

pub returns-clause-there : goal.returns-clause-there
returns-clause-there c =
    let joined = c.in_ok-joined.joined in
    put-there c.args.self.now.masks c.insert.new.self c.args.event joined (put-first c.args.event joined c.args.self.now.masks c.list.new.self.masks c.insert.new.self c.list.ensures.masks c.in_ok-insert.ensures.updates.0)

pub returns-clause-marked : goal.returns-clause-marked
returns-clause-marked c =
    let joined = c.in_ok-joined.joined in
    put-waits c.args.self.now.masks c.insert.new.self c.args.event joined (put-first c.args.event joined c.args.self.now.masks c.list.new.self.masks c.insert.new.self c.list.ensures.masks c.in_ok-insert.ensures.updates.0)
    (has c.args.mask.now) c.in_ok-joined.ensures.each
