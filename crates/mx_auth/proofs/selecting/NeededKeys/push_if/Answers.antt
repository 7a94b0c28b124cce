use Rattle.std.proofs.Common.{arith, length-set, ◌∙◌, ap, ◌++◌, ◌∷◌, [], List}
use Rattle.mx_pdu.specs.StateKeys.{Key}
use Rattle.mx_auth.proofs.KeyLemmas.{room_left, one_more}
use Rattle.mx_auth.proofs.selecting.NeededKeys.push_if.Goals as goal

pub bounds-self-inside-self-inside : goal.bounds-self-inside-self-inside
bounds-self-inside-self-inside c = room_left _ _ _ c.self.invariant.0 c.self.invariant.1 c.self.view_is c.requires

pub invariant_of-self : goal.invariant_of-self
invariant_of-self c =
    let room = room_left _ _ _ c.self.invariant.0 c.self.invariant.1 c.self.view_is c.requires in
    (omega arith, length-set _ _ _ ∙ c.self.invariant.1)

pub returns-then-wanted : goal.returns-then-wanted
returns-then-wanted c =
    let room = room_left _ _ _ c.self.invariant.0 c.self.invariant.1 c.self.view_is c.requires in
    rw c.if-wanted.true (one_more c.self.inside.keys c.self.inside.count _ (omega arith) ∙ ap (λ (keys : List Key). keys ++ (c.args.kind.now, c.args.state_key.now) ∷ []) c.self.view_is)
