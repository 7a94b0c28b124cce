use Rattle.std.proofs.Common.{◌≡◌, ◌++◌, ◌∷◌, [], List, Err, sym, ap, subst, ◌∙◌, append_assoc, append-nil, arith, refl}
use Rattle.std.specs.Prelude.{All, IsTrue}
use Rattle.std.proofs.lemmas.List.{map-append}
use Rattle.std.proofs.lemmas.List.Elements.{All-push}
use Rattle.mx_keeper.specs.Places.{is_at}
use Rattle.mx_keeper.specs.declared.rows.ShardRow.{ShardRow}
use Rattle.mx_shard.specs.Journal.{Entry, entry_of_row, reopened, stored, CanReopen}
use Rattle.mx_shard.specs.Inside.{CanFollow, HasVersion}
use Rattle.mx_shard.proofs.ReopenLemmas.{reopen-none, no-more, elsewhere, not-legal, is-storage, versions-push}
use Rattle.mx_shard.proofs.reopening.reopened_in.Goals as goal

pub loop-row-init : goal.loop-row-init
loop-row-init c =
    let made = reopen-none c.new-rooms.result.items c.new-numbers.result c.new-holders.result c.new-journal.result.items c.new-rooms.ensures.items c.new-numbers.ensures.empty c.new-journal.ensures.items in
    record {
      done = [];
      all = c.into_iter-row-iterator.ensures.into_iter_gives.0;
      here = λ k d l. absurd (omega arith);
      journal = rw c.new-journal.ensures.items refl;
      made = made;
      versions = refl;
    }

pub reopen_row-requires : goal.reopen_row-requires
reopen_row-requires c = c.loop-row.invariant.made

pub loop-row-preserved : goal.loop-row-preserved
loop-row-preserved c =
    let i = c.loop-row.invariant in
    record {
      done = i.done ++ c.in-Some.row ∷ [];
      all = append_assoc i.done (c.in-Some.row ∷ []) c.next.new.self.rest.items ∙ ap (λ (rs : List ShardRow). i.done ++ rs) (sym c.in-Some.ensures.steps.0) ∙ i.all;
      here = All-push (λ (r : ShardRow). IsTrue (is_at c.args.place.now r.room)) i.done c.in-Some.row i.here (ap (is_at c.args.place.now) (sym c.as_str.ensures.text) ∙ sym c.has.ensures ∙ c.if-not-has.false);
      journal = c.in_ok-reopen_row.ensures.journal ∙ ap (λ (js : List Entry). js ++ entry_of_row c.in-Some.row ∷ []) i.journal ∙ sym (map-append entry_of_row i.done (c.in-Some.row ∷ []));
      made = c.in_ok-reopen_row.ensures.made;
      versions = versions-push i.done c.in-Some.row i.versions (subst (λ (js : List Entry). HasVersion js c.in-Some.row) i.journal c.in_ok-reopen_row.ensures.version);
    }

pub returns-then-not-has-clause-storage : goal.returns-then-not-has-clause-storage
returns-then-not-has-clause-storage c = λ _.
    let i = c.loop-row.invariant in
    subst (λ (rs : List ShardRow). ¬ (CanReopen c.args.place.now rs)) (ap (λ (rs : List ShardRow). i.done ++ rs) (sym c.in-Some.ensures.steps.0) ∙ i.all)
    (elsewhere c.args.place.now i.done c.next.new.self.rest.items c.in-Some.row (ap (is_at c.args.place.now) (sym c.as_str.ensures.text) ∙ sym c.has.ensures ∙ c.if-not-has.true))

pub returns-in_err-reopen_row-clause-storage : goal.returns-in_err-reopen_row-clause-storage
returns-in_err-reopen_row-clause-storage c = λ is.
    let i = c.loop-row.invariant in
    subst (λ (rs : List ShardRow). ¬ (CanReopen c.args.place.now rs)) (ap (λ (rs : List ShardRow). i.done ++ rs) (sym c.in-Some.ensures.steps.0) ∙ i.all)
    (not-legal c.args.place.now i.done c.next.new.self.rest.items c.in-Some.row
    (subst (λ (js : List Entry). ¬ (CanFollow js c.in-Some.row)) i.journal
    (c.in_err-reopen_row.ensures.storage (ap (λ e. Err e) (is-storage c.from_residual.result c.in_err-reopen_row.field-0.0 c.from_residual.ensures.1 is)))))

pub returns-clause-journal : goal.returns-clause-journal
returns-clause-journal c =
    let i = c.loop-row.invariant in
    let rest = c.loop-row.row-iterator.rest in
    let none : rest.items ≡ [] = no-more rest.items (omega (arith, rest.ok.0, c.in-None.ensures.steps.0)) in
    i.journal ∙ ap reopened (sym (append-nil i.done) ∙ ap (λ (rs : List ShardRow). i.done ++ rs) (sym none) ∙ i.all)

pub returns-clause-made : goal.returns-clause-made
returns-clause-made c = c.loop-row.invariant.made

pub returns-clause-here : goal.returns-clause-here
returns-clause-here c =
    let i = c.loop-row.invariant in
    let rest = c.loop-row.row-iterator.rest in
    let none : rest.items ≡ [] = no-more rest.items (omega (arith, rest.ok.0, c.in-None.ensures.steps.0)) in
    subst (All (λ (r : ShardRow). IsTrue (is_at c.args.place.now r.room))) (sym (append-nil i.done) ∙ ap (λ (rs : List ShardRow). i.done ++ rs) (sym none) ∙ i.all) i.here

pub returns-clause-versions : goal.returns-clause-versions
returns-clause-versions c =
    let i = c.loop-row.invariant in
    let rest = c.loop-row.row-iterator.rest in
    let none : rest.items ≡ [] = no-more rest.items (omega (arith, rest.ok.0, c.in-None.ensures.steps.0)) in
    subst (λ (rs : List ShardRow). stored (reopened rs) ≡ rs) (sym (append-nil i.done) ∙ ap (λ (rs : List ShardRow). i.done ++ rs) (sym none) ∙ i.all) i.versions
