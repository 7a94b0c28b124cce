use Rattle.std.proofs.Common.{◌≡◌, ◌∙◌, None, Err, sym, ap, ap₂}
use Rattle.std.specs.Prelude.{find, bytes_eq, option_copied}
use Rattle.mx_redact.specs.Fields.{Event}
use Rattle.mx_pdu.specs.Event.{room_of}
use Rattle.mx_keeper.specs.declared.rows.ShardRow.{ShardRow}
use Rattle.mx_room.specs.Queries.{room_version}
use Rattle.mx_room.specs.RoomView.{RoomView}
use Rattle.mx_room.proofs.RoomLemmas.{at-error}
use Rattle.mx_shard.specs.Inside.{rows_at}
use Rattle.mx_shard.proofs.ChangeLemmas.{not_host, new_hosted, no_cause}
use Rattle.mx_shard.proofs.hosting.hosting_in.Goals as goal

pub returns-in_ok-row-in-Ok-clause-hosting : goal.returns-in_ok-row-in-Ok-clause-hosting
returns-in_ok-row-in-Ok-clause-hosting c = record {
  missing = ap (λ id. find (λ (r : RoomView). bytes_eq r.id id) c.args.rooms.now) (sym c.room_id.ensures) ∙ sym c.room_with.ensures ∙ ap option_copied c.in_default.is;
  free = c.in-Ok.ensures.free;
  room = c.in-Ok.ensures.hosted;
  id = c.in_ok-id-in-Ok.ensures.cases;
  row = c.in_ok-row-in-Ok.ensures
      ∙ ap₂ (λ v (e : Event). let row : ShardRow = record { room = room_of c.args.offered.now.pdu; version = v; event = e; caller = c.args.caller } in row)
      (c.version.ensures ∙ ap (λ (r : RoomView). room_version r.kept) c.in-Ok.ensures.hosted) c.in_ok-event-in-Ok.ensures.cases;
}

pub returns-in-Err-NotARoom-clause-hosting : goal.returns-in-Err-NotARoom-clause-hosting
returns-in-Err-NotARoom-clause-hosting c =
    let missing : find (λ (r : RoomView). bytes_eq r.id (room_of c.args.offered.now.pdu)) c.args.rooms.now ≡ None =
    ap (λ id. find (λ (r : RoomView). bytes_eq r.id id) c.args.rooms.now) (sym c.room_id.ensures) ∙ sym c.room_with.ensures ∙ ap option_copied c.in_default.is in
    rw c.in-Err-NotARoom.field-0-is (not_host (rows_at (find (λ (r : RoomView). bytes_eq r.id (room_of c.args.offered.now.pdu)) c.args.rooms.now)) c.args.offered.now c.in-Err-NotARoom.error (ap rows_at missing) ((c.in-Err-NotARoom.ensures.refused c.in-Err-NotARoom.error).0 (ap Err c.in-Err-NotARoom.field-0-is)))

pub returns-in-Err-Memory-clause-memory : goal.returns-in-Err-Memory-clause-memory
returns-in-Err-Memory-clause-memory c =
    let missing : find (λ (r : RoomView). bytes_eq r.id (room_of c.args.offered.now.pdu)) c.args.rooms.now ≡ None =
    ap (λ id. find (λ (r : RoomView). bytes_eq r.id id) c.args.rooms.now) (sym c.room_id.ensures) ∙ sym c.room_with.ensures ∙ ap option_copied c.in_default.is in
    new_hosted c.args.rooms.now c.args.offered.now missing (no_cause c.args.offered.now c.in-Err-Memory.field-0 c.in-Err-Memory.field-0-is c.in-Err-Memory.ensures.refused)

pub returns-in_err-id-in-Ok-clause-memory : goal.returns-in_err-id-in-Ok-clause-memory
returns-in_err-id-in-Ok-clause-memory c =
    let missing : find (λ (r : RoomView). bytes_eq r.id (room_of c.args.offered.now.pdu)) c.args.rooms.now ≡ None =
    ap (λ id. find (λ (r : RoomView). bytes_eq r.id id) c.args.rooms.now) (sym c.room_id.ensures) ∙ sym c.room_with.ensures ∙ ap option_copied c.in_default.is in
    at-error c.from_residual-in_err-id-in-Ok.result (new_hosted c.args.rooms.now c.args.offered.now missing c.in-Ok.ensures.free)

pub returns-in_err-event-in-Ok-clause-memory : goal.returns-in_err-event-in-Ok-clause-memory
returns-in_err-event-in-Ok-clause-memory c =
    let missing : find (λ (r : RoomView). bytes_eq r.id (room_of c.args.offered.now.pdu)) c.args.rooms.now ≡ None =
    ap (λ id. find (λ (r : RoomView). bytes_eq r.id id) c.args.rooms.now) (sym c.room_id.ensures) ∙ sym c.room_with.ensures ∙ ap option_copied c.in_default.is in
    at-error c.from_residual-in_err-event-in-Ok.result (new_hosted c.args.rooms.now c.args.offered.now missing c.in-Ok.ensures.free)

pub returns-in_err-row-in-Ok-clause-memory : goal.returns-in_err-row-in-Ok-clause-memory
returns-in_err-row-in-Ok-clause-memory c =
    let missing : find (λ (r : RoomView). bytes_eq r.id (room_of c.args.offered.now.pdu)) c.args.rooms.now ≡ None =
    ap (λ id. find (λ (r : RoomView). bytes_eq r.id id) c.args.rooms.now) (sym c.room_id.ensures) ∙ sym c.room_with.ensures ∙ ap option_copied c.in_default.is in
    at-error c.from_residual-in_err-row-in-Ok.result (new_hosted c.args.rooms.now c.args.offered.now missing c.in-Ok.ensures.free)
