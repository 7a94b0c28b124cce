use Rattle.std.proofs.Common.{◌≡◌, ◌∙◌, ◌≤◌, length, Some, sym, ap, arith}
use Rattle.std.proofs.lemmas.Bool.{ltb-false, ltb-true, ne_eqb}
use Rattle.mx_room.specs.RoomView.{RoomView, has_event}
use Rattle.mx_shard.specs.Holders.{holder_of, may_hold}
use Rattle.mx_shard.specs.declared.holders.Holder.{Holder}
use Rattle.mx_shard.specs.declared.holders.Holder.TheVariants.{Room}
use Rattle.mx_shard.proofs.HeldLemmas.{none_has, one_has}
use Rattle.mx_shard.proofs.holding.is_held_among.Goals as goal

pub returns-in-Some : goal.returns-in-Some
returns-in-Some c =
    let there : holder_of c.args.holders.now c.args.id.now ≡ Some (Room c.in-Some-Room.number) =
    sym (c.copied.ensures ∙ c.get.ensures.value) ∙ c.in-Some-Room.is ∙ ap (λ (h : Holder). Some h) c.in-Some-Room.field-0-is in
    c.holds.ensures ∙ ap (λ (room : RoomView). has_event room.kept c.args.id.now) c.in-Some.ensures.lookup.1
    ∙ sym (one_has c.args.holders.now c.args.rooms.now c.args.id.now c.requires c.in-Some-Room.number c.in-Some.room.now
    (ltb-true c.in-Some-Room.number (length c.args.rooms.now) (sym c.in-Some.ensures.lookup.0)) there)

pub returns-in-None-get : goal.returns-in-None-get
returns-in-None-get c =
    let there : holder_of c.args.holders.now c.args.id.now ≡ Some (Room c.in-Some-Room.number) =
    sym (c.copied.ensures ∙ c.get.ensures.value) ∙ c.in-Some-Room.is ∙ ap (λ (h : Holder). Some h) c.in-Some-Room.field-0-is in
    let past : length c.args.rooms.now ≤ c.in-Some-Room.number = ltb-false c.in-Some-Room.number (length c.args.rooms.now) (sym c.in-None-get.ensures.lookup.0) in
    sym (none_has c.args.holders.now c.args.rooms.now c.args.id.now c.requires
    (λ n l. ap (λ h. may_hold h n) there ∙ ne_eqb c.in-Some-Room.number n (λ e. absurd (omega (arith, e, l, past)))))

pub returns-in-None : goal.returns-in-None
returns-in-None c =
    sym (none_has c.args.holders.now c.args.rooms.now c.args.id.now c.requires
    (λ n l. ap (λ h. may_hold h n) (sym (c.copied.ensures ∙ c.get.ensures.value) ∙ c.in-None.is)))
