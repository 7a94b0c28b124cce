use Rattle.std.proofs.Common.{◌∙◌, List, Some, sym, ap, subst, length}
use Rattle.std.proofs.lemmas.List.{with_items_is}
use Rattle.mx_book.specs.View.{BookView}
use Rattle.mx_world.specs.Inside.{IsSound}
use Rattle.mx_world.specs.Moves.{after_abandon}
use Rattle.mx_world.specs.Parts.{ArePlaced, book_places}
use Rattle.mx_world.specs.Storage.{OnlyAt}
use Rattle.mx_world.specs.Worlds.{status_in, AtTransaction}
use Rattle.mx_world.proofs.RunLemmas.{changed_of}
use Rattle.mx_world.proofs.worlds.World.abandon.Goals as goal

pub invariant_of-self : goal.invariant_of-self
invariant_of-self g c =
    let same = with_items_is c.self.inside.books c.abandon_in.new.books (c.abandon_in.auto.books ∙ ap length c.deref_mut.ensures.value ∙ sym c.self.inside.books.ok.0) in
    subst (λ (books : List (BookView _)). IsSound c.self.inside.shards.items books c.abandon_in.new.going.entries) (sym same) (record {
      shards_placed = c.self.invariant.shards_placed;
      books_placed = subst ArePlaced (sym (c.abandon_in.ensures.places ∙ ap (λ (books : List (BookView _)). book_places books) c.deref_mut.ensures.value)) c.self.invariant.books_placed;
      agree = c.abandon_in.ensures.agree;
    })

pub returns-clause-statuses : goal.returns-clause-statuses
returns-clause-statuses g c =
    changed_of (λ w w'. AtTransaction (status_in w) (status_in w') c.args.key.now after_abandon)
    c.args.self.now _ (record { shards = c.self.inside.shards.items; books = c.deref_mut.result.now; going = c.self.inside.going.entries })
    (record { shards = c.self.inside.shards.items; books = c.abandon_in.new.books; going = c.abandon_in.new.going.entries })
    ((λ i. record { shards = c.self.inside.shards.items; books = c.deref_mut.ensures.value i; going = c.self.inside.going.entries }) ∙ c.self.view_is)
    (λ i. record {
      shards = c.self.inside.shards.items;
      books = sym (with_items_is c.self.inside.books c.abandon_in.new.books (c.abandon_in.auto.books ∙ ap length c.deref_mut.ensures.value ∙ sym c.self.inside.books.ok.0)) i;
      going = c.abandon_in.new.going.entries;
    })
    c.abandon_in.ensures.statuses

pub returns-clause-only : goal.returns-clause-only
returns-clause-only g c =
    changed_of (λ w w'. OnlyAt (Some c.args.key.now.origin) w.books w'.books)
    c.args.self.now _ (record { shards = c.self.inside.shards.items; books = c.deref_mut.result.now; going = c.self.inside.going.entries })
    (record { shards = c.self.inside.shards.items; books = c.abandon_in.new.books; going = c.abandon_in.new.going.entries })
    ((λ i. record { shards = c.self.inside.shards.items; books = c.deref_mut.ensures.value i; going = c.self.inside.going.entries }) ∙ c.self.view_is)
    (λ i. record {
      shards = c.self.inside.shards.items;
      books = sym (with_items_is c.self.inside.books c.abandon_in.new.books (c.abandon_in.auto.books ∙ ap length c.deref_mut.ensures.value ∙ sym c.self.inside.books.ok.0)) i;
      going = c.abandon_in.new.going.entries;
    })
    c.abandon_in.ensures.only
