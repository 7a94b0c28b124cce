use Rattle.std.proofs.Common.{length, IsTrue, subst}
use Rattle.std.specs.Prelude.{All}
use Rattle.std.proofs.lemmas.Bool.{eqb-true}
use Rattle.mx_book.specs.Journal.{IsEnded}
use Rattle.mx_book.specs.View.{BookView}
use Rattle.mx_world.specs.Parts.{IsSoundBook}
use Rattle.mx_world.specs.View.{WorldView}
use Rattle.mx_world.specs.Worlds.{none_open}
use Rattle.mx_world.proofs.PartLemmas.{all-ended}
use Rattle.mx_world.proofs.worlds.World.into_parts.Goals as goal

pub returns-clause-ended : goal.returns-clause-ended
returns-clause-ended g c =
    let w = c.self.inside in
    let sound : All (IsSoundBook g.L.Keeper.is_honest g.L.Keeper.is_open g.L.Keeper.rows) w.books.items = subst (All (IsSoundBook g.L.Keeper.is_honest g.L.Keeper.is_open g.L.Keeper.rows)) c.deref-2.ensures.value c.parts_are_sound-2.ensures in
    subst (λ (v : WorldView _ _). IsTrue (none_open v) → All (λ (book : BookView _). IsEnded book.journal) v.books) c.self.view_is
    (λ none. all-ended g.L.Keeper.is_honest g.L.Keeper.is_open g.L.Keeper.rows w.books.items w.going.entries c.self.invariant.books_placed sound c.self.invariant.agree (eqb-true (length w.going.entries) 0 none))
