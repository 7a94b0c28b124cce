use Rattle.std.proofs.Common.{◌≡◌, ◌==◌, length, sym, arith, rules}
use Rattle.mx_state_res.specs.Masks.{has}
use Rattle.mx_state_res.proofs.EventMaskLemmas.{first-had}
use Rattle.mx_state_res.proofs.MaskLemmas.{put-first, put-wide, put-there, put-waits}
use Rattle.mx_state_res.proofs.chains.event_masks.EventMasks.add.Goals as goal

pub add_state-requires : goal.add_state-requires
add_state-requires c =
    let long : length c.in-Some.mask.now.items ≡ c.args.self.now.sets = c.requires.wide c.args.event c.in-Some.mask.now (sym c.in-Some.ensures.value) in
    omega (arith, c.in-Some.mask.now.ok.0, long, c.requires.set)

pub returns-in-Some-clause-wide : goal.returns-in-Some-clause-wide
returns-in-Some-clause-wide c =
    let before : length c.in-Some.mask.now.items ≡ c.args.self.now.sets = c.requires.wide c.args.event c.in-Some.mask.now (sym c.in-Some.ensures.value) in
    let long : length c.add_state.new.mask.items ≡ c.args.self.now.sets = omega (arith, c.in-Some.mask.now.ok.0, c.add_state.new.mask.ok.0, before, c.add_state.ensures.wide) in
    put-wide c.args.self.now.masks (c.get_mut.follows.lender c.add_state.new.mask) c.args.event c.add_state.new.mask ((c.get_mut.follows.holds c.add_state.new.mask).3 (search rules)).0 c.args.self.now.sets c.requires.wide long

pub returns-clause-wide : goal.returns-clause-wide
returns-clause-wide c =
    let mask = c.in_ok-mask.mask in
    let long : length mask.items ≡ c.args.self.now.sets = omega (arith, mask.ok.0, c.in_ok-mask.ensures.wide) in
    put-wide c.args.self.now.masks c.insert.new.self c.args.event mask (put-first c.args.event mask c.args.self.now.masks c.get_mut.follows.lender-at-none c.insert.new.self c.get_mut.follows.holds-at-none c.in_ok-insert.ensures.updates.0)
    c.args.self.now.sets c.requires.wide long

pub returns-clause-there : goal.returns-clause-there
returns-clause-there c =
    let mask = c.in_ok-mask.mask in
    put-there c.args.self.now.masks c.insert.new.self c.args.event mask (put-first c.args.event mask c.args.self.now.masks c.get_mut.follows.lender-at-none c.insert.new.self c.get_mut.follows.holds-at-none c.in_ok-insert.ensures.updates.0)

pub returns-clause-had : goal.returns-clause-had
returns-clause-had c =
    let mask = c.in_ok-mask.mask in
    put-waits c.args.self.now.masks c.insert.new.self c.args.event mask (put-first c.args.event mask c.args.self.now.masks c.get_mut.follows.lender-at-none c.insert.new.self c.get_mut.follows.holds-at-none c.in_ok-insert.ensures.updates.0)
    (λ i. c.args.set == i) (first-had c.args.self.now.masks c.args.event c.in_default.ensures.value (λ i. c.args.set == i) (has mask.items) c.in_ok-mask.ensures.each)
