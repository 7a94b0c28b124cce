use Rattle.std.proofs.Common.{ap, inr, Err}
use Rattle.mx_world.specs.declared.open_errors.OpenError.TheVariants.{Book}
use Rattle.mx_world.proofs.ReopeningLemmas.{book-closed}
use Rattle.mx_world.proofs.parts.BookPart.reopen.Goals as goal

pub returns-in-Ok-clause-over : goal.returns-in-Ok-clause-over
returns-in-Ok-clause-over g c = let made = c.in-Ok.ensures in
    record { journal = made.journal; taken = made.taken; rows = made.honest; crash = made.crash; ready = made.ready; again = made.again }

pub returns-in-Err-Storage-clause-refused : goal.returns-in-Err-Storage-clause-refused
returns-in-Err-Storage-clause-refused g c = inr (
  ap Book c.number.ensures.number,
  book-closed g.L.Keeper.is_ready g.L.Keeper.is_honest g.L.Keeper.rows c.args.keeper c.args.place (c.in-Err-Storage.ensures.unfit (ap (λ e. Err e) c.in-Err-Storage.field-0-is)),
)
