use Rattle.std.proofs.Common.{◌≡◌, ◌∙◌, ◌≤◌, length, Some, sym, ap, arith}
use Rattle.std.proofs.lemmas.Bool.{ltb-false, ltb-true, ne_eqb}
use Rattle.mx_room.proofs.RoomLemmas.{at-error}
use Rattle.mx_shard.specs.Holders.{holder_asked, may_hold}
use Rattle.mx_shard.specs.declared.holders.Holder.{Holder}
use Rattle.mx_shard.specs.declared.holders.Holder.TheVariants.{Room}
use Rattle.mx_shard.proofs.HolderLemmas.{shown_nowhere, shown_there}
use Rattle.mx_shard.proofs.RoomLemmas.{has_shown}
use Rattle.mx_shard.proofs.asking.shown_in.Goals as goal

pub returns-in_err-reply-in-Some-clause-memory : goal.returns-in_err-reply-in-Some-clause-memory
returns-in_err-reply-in-Some-clause-memory c =
    at-error c.from_residual.result
    (has_shown c.args.rooms.now c.args.origin.now c.args.now c.args.query.now c.in-Some-Room.number c.in-Some.room.now c.requires.distinct c.requires.ready
    (ltb-true c.in-Some-Room.number (length c.args.rooms.now) (sym c.in-Some.ensures.lookup.0)) c.in-Some.ensures.lookup.1 c.in_err-reply-in-Some.ensures.memory)

pub returns-in_ok-reply-in-Some-clause-reply : goal.returns-in_ok-reply-in-Some-clause-reply
returns-in_ok-reply-in-Some-clause-reply c =
    shown_there c.args.holders.now c.args.rooms.now c.args.origin.now c.args.now c.requires.holding c.args.query.now c.in-Some-Room.number c.in-Some.room.now c.in_ok-reply-in-Some.reply
    c.requires.alone c.requires.distinct c.requires.ready (sym c.holder_for.ensures ∙ c.in-Some-Room.is ∙ ap (λ (h : Holder). Some h) c.in-Some-Room.field-0-is)
    (ltb-true c.in-Some-Room.number (length c.args.rooms.now) (sym c.in-Some.ensures.lookup.0)) c.in-Some.ensures.lookup.1 c.in_ok-reply-in-Some.ensures.reply

pub returns-in-None-get-clause-reply : goal.returns-in-None-get-clause-reply
returns-in-None-get-clause-reply c =
    let there : holder_asked c.args.holders.now c.args.query.now ≡ Some (Room c.in-Some-Room.number) =
    sym c.holder_for.ensures ∙ c.in-Some-Room.is ∙ ap (λ (h : Holder). Some h) c.in-Some-Room.field-0-is in
    let past : length c.args.rooms.now ≤ c.in-Some-Room.number = ltb-false c.in-Some-Room.number (length c.args.rooms.now) (sym c.in-None-get.ensures.lookup.0) in
    shown_nowhere c.args.holders.now c.args.rooms.now c.args.origin.now c.args.now c.requires.holding c.args.query.now c.requires.alone
    (λ n l. ap (λ h. may_hold h n) there ∙ ne_eqb c.in-Some-Room.number n (λ e. absurd (omega (arith, e, l, past))))

pub returns-in-None-clause-reply : goal.returns-in-None-clause-reply
returns-in-None-clause-reply c =
    shown_nowhere c.args.holders.now c.args.rooms.now c.args.origin.now c.args.now c.requires.holding c.args.query.now c.requires.alone
    (λ n l. ap (λ h. may_hold h n) (sym c.holder_for.ensures ∙ c.in-None.is))
