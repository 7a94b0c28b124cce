use Rattle.std.proofs.Common.{◌≡◌, Some, List, sym, ap, ◌∙◌}
use Rattle.mx_keeper.specs.declared.rows.ShardRow.{ShardRow}
use Rattle.mx_shard.specs.Journal.{stored, reopened}
use Rattle.mx_shard.proofs.AgainLemmas.{journal-again}
use Rattle.mx_shard.proofs.ReopenLemmas.{all-here}
use Rattle.mx_shard.proofs.shards.Shard.reopen.Goals as goal

pub invariant_of-result : goal.invariant_of-result
invariant_of-result g c =
    let made = c.in_ok-made-in-Ok.ensures.made in
    let is = c.in_ok-made-in-Ok.ensures.journal in (
      record {
        indexed = made.indexed;
        here = all-here c.args.place c.in-Ok.rows.items _ is c.in_ok-made-in-Ok.ensures.here;
        legal = made.legal;
      },
      λ _ honest. let open' = c.in-Ok.ensures.open honest in (
        open',
        c.in-Ok.ensures.stay honest open' ∙ c.in-Ok.ensures.ok honest ∙ ap (λ (rs : List ShardRow). Some rs) (sym (ap stored is ∙ c.in_ok-made-in-Ok.ensures.versions)),
      ),
      made.holding,
    )

pub returns-in-Ok-clause-journal : goal.returns-in-Ok-clause-journal
returns-in-Ok-clause-journal g c =
    let is = c.in_ok-made-in-Ok.ensures.journal in
    is ∙ ap reopened (sym (ap stored is ∙ c.in_ok-made-in-Ok.ensures.versions))

pub returns-in-Ok-clause-honest : goal.returns-in-Ok-clause-honest
returns-in-Ok-clause-honest g c = λ honest. (
  c.in-Ok.ensures.honest honest,
  c.in-Ok.ensures.ok honest ∙ ap (λ (rs : List ShardRow). Some rs) (sym (ap stored c.in_ok-made-in-Ok.ensures.journal ∙ c.in_ok-made-in-Ok.ensures.versions)),
)

pub returns-in-Ok-clause-again : goal.returns-in-Ok-clause-again
returns-in-Ok-clause-again g c = λ honest journal is ids.
    let rows : c.in-Ok.rows.items ≡ stored journal = some-is c.in-Ok.rows.items (stored journal) (sym (c.in-Ok.ensures.ok honest) ∙ is) in
    c.in_ok-made-in-Ok.ensures.journal ∙ ap reopened rows ∙ journal-again journal ids
  where
    some-is : (xs ys : List ShardRow) → Some xs ≡ Some ys → xs ≡ ys
    some-is xs ys h = cc
