use Rattle.std.proofs.Common.{◌≡◌, ◌⊎◌, ◌++◌, arith, true, rules, subst, sym, ◌∙◌, inl, inr}
use Rattle.std.proofs.lemmas.Result.{err_from_is_err_and}
use Rattle.sqlite.specs.Held.{state}
use Rattle.sqlite.specs.State.{HasCleanDisk}
use Rattle.mx_keeper.specs.Connections.{MayRefuse}
use Rattle.mx_keeper.specs.Moving.{drop_steps}
use Rattle.mx_keeper.specs.ShardTable.{RefusesLayout, RefusesOne, fill_steps}
use Rattle.mx_keeper.proofs.MoveLemmas.{refused_inside}
use Rattle.mx_keeper.proofs.tables.second_layout.lay_out.Goals as goal

pub returns-in_err-fill-clause-refused : goal.returns-in_err-fill-clause-refused
returns-in_err-fill-clause-refused g c clean is =
    let p = err_from_is_err_and c.from_residual.result c.from_residual.ensures.1 in
    let old = c.args.connection.now in
    let filled = c.fill.new.transaction.conn.now in
    let end = c.drop-transaction.new.self.0 in
    let same : end ≡ c.connection-1.given.0 = search rules in
    let late : HasCleanDisk (state g.S.Store end) = search rules in
    let mid : HasCleanDisk (state g.S.Store filled) = omega (arith, c.drop-transaction.ensures.survives.clean) in
    let had = c.has_kept-had_first.ensures in
    let told = c.in_err-fill.ensures.refused mid (let store = rw (p.1, p.2) at is in cc) in
    let refused = subst (λ h. MayRefuse (state g.S.Store h) (state g.S.Store filled)
    ⊎ RefusesOne (drop_steps c.has_kept-had_first.result ++ fill_steps c.args.rows.now) (state g.S.Store h)) c.transaction-transaction.ensures.begun told in
    let whole = refused_inside c.has_kept-had_first.result c.args.rows.now (state g.S.Store old) (state g.S.Store filled)
    (state g.S.Store end) c.drop-transaction.ensures.survives.counts
    (λ kept. sym c.schema.ensures.value ∙ had.0 kept)
    (λ other live. elim (c.requires.known live) [ inl kept ↦ absurd (let both = sym other ∙ had.1 (c.schema.ensures.value ∙ kept) in cc) | inr none ↦ none ]) refused in
    subst (λ h. MayRefuse (state g.S.Store old) (state g.S.Store h) ⊎ RefusesLayout c.args.rows.now (record (state g.S.Store old) { in_transaction = true })) same whole
