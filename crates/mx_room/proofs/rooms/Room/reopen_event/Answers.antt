use Rattle.std.proofs.Common.{◌≡◌, ◌↔◌, IsErrOf, Some, subst}
use Rattle.mx_receipt.specs.Receipt.{rows_of, offer_error}
use Rattle.mx_receipt.specs.declared.refusals.NotReceived.{NotReceived}
use Rattle.mx_receipt.specs.declared.refusals.OfferError.TheVariants as error
use Rattle.mx_room.specs.RoomView.{RoomView}
use Rattle.mx_room.proofs.rooms.Room.reopen_event.Goals as goal

pub returns-clause-refused : goal.returns-clause-refused
returns-clause-refused c =
    subst (λ (room : RoomView). (cause : NotReceived) → IsErrOf c.offer.result (error.NotReceived cause) ↔ (offer_error (rows_of room.kept) c.args.id c.args.event ≡ Some cause))
    c.self.view_is c.offer.ensures.refused
