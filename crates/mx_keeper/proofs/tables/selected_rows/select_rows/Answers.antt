use Rattle.std.proofs.Common.{arith, [], ◌∙◌, refl}
use Rattle.std.proofs.lemmas.Result.{err_from_is_err_and}
use Rattle.sqlite.specs.Held.{state}
use Rattle.sqlite.specs.State.{HasCleanDisk}
use Rattle.sqlite.proofs.StateLemmas.{survives_then}
use Rattle.mx_keeper.proofs.StayLemmas.{on_err, stays_not_run}
use Rattle.mx_keeper.proofs.QueryLemmas.{refuses_unprepared, refuses_then, selects_then, fails_then, never_then}
use Rattle.mx_keeper.proofs.tables.selected_rows.select_rows.Goals as goal

pub returns-in_err-select-clause-err : goal.returns-in_err-select-clause-err
returns-in_err-select-clause-err g c clean = on_err _ (stays_not_run _ _ c.requires.idle _ [] _ (c.in_err-select.ensures.err clean []))

pub returns-clause-ok : goal.returns-clause-ok
returns-clause-ok g c clean =
    let s = c.query_all.ensures.survives.clean in
    let first : HasCleanDisk (state g.S.Store c.prepare.new.self) = omega arith in
    let made = c.in_ok-select.ensures.ok first in
    (selects_then (g.met.R.SelectedRow.selects _ (c.requires.known made.1.0.was_open)) _ _ c.requires.idle (λ _. refl) made.1 _ g.met.R.SelectedRow.placed _ _ (made.0 ∙ c.select.ensures) _ (c.in_ok-rows.ensures.ok clean)).0

pub returns-clause-same : goal.returns-clause-same
returns-clause-same g c clean =
    let s = c.query_all.ensures.survives.clean in
    let first : HasCleanDisk (state g.S.Store c.prepare.new.self) = omega arith in
    let made = c.in_ok-select.ensures.ok first in
    (selects_then (g.met.R.SelectedRow.selects _ (c.requires.known made.1.0.was_open)) _ _ c.requires.idle (λ _. refl) made.1 _ g.met.R.SelectedRow.placed _ _ (made.0 ∙ c.select.ensures) _ (c.in_ok-rows.ensures.ok clean)).1

pub returns-in_err-rows-clause-err : goal.returns-in_err-rows-clause-err
returns-in_err-rows-clause-err g c clean =
    let s = c.query_all.ensures.survives.clean in
    let first : HasCleanDisk (state g.S.Store c.prepare.new.self) = omega arith in
    let made = c.in_ok-select.ensures.ok first in
    on_err _ (fails_then (g.met.R.SelectedRow.selects _ (c.requires.known made.1.0.was_open)) _ _ c.requires.idle (λ _. refl) made.1 _ _ (made.0 ∙ c.select.ensures) _ (c.in_err-rows.ensures.err clean))

pub returns-clause-survives : goal.returns-clause-survives
returns-clause-survives g c =
    survives_then _ _ _ (λ _. ⊥) _ _ (λ _ db none. none) (λ clean db put.
    let s = c.query_all.ensures.survives.clean in
    let first : HasCleanDisk (state g.S.Store c.prepare.new.self) = omega arith in
    let made = c.in_ok-select.ensures.ok first in
    never_then (g.met.R.SelectedRow.selects _ (c.requires.known made.1.0.was_open)) _ _ c.requires.idle (λ _. refl) made.1 _ (made.0 ∙ c.select.ensures) db put
    ) c.prepare.ensures.survives c.query_all.ensures.survives

pub returns-in_err-rows-clause-survives : goal.returns-in_err-rows-clause-survives
returns-in_err-rows-clause-survives g c =
    survives_then _ _ _ (λ _. ⊥) _ _ (λ _ db none. none) (λ clean db put.
    let s = c.query_all.ensures.survives.clean in
    let first : HasCleanDisk (state g.S.Store c.prepare.new.self) = omega arith in
    let made = c.in_ok-select.ensures.ok first in
    never_then (g.met.R.SelectedRow.selects _ (c.requires.known made.1.0.was_open)) _ _ c.requires.idle (λ _. refl) made.1 _ (made.0 ∙ c.select.ensures) db put
    ) c.prepare.ensures.survives c.query_all.ensures.survives

pub returns-in_err-select-clause-refused : goal.returns-in_err-select-clause-refused
returns-in_err-select-clause-refused g c clean =
    let p = err_from_is_err_and c.from_residual.result c.from_residual.ensures.1 in
    rw (p.1, p.2) (λ other. refuses_unprepared (λ schema has. g.met.R.SelectedRow.selects schema has) _ _ c.requires.known _ other _ c.select.ensures (c.in_err-select.ensures.err clean []))

pub returns-in_err-rows-clause-refused : goal.returns-in_err-rows-clause-refused
returns-in_err-rows-clause-refused g c clean =
    let s = c.query_all.ensures.survives.clean in
    let first : HasCleanDisk (state g.S.Store c.prepare.new.self) = omega arith in
    let made = c.in_ok-select.ensures.ok first in
    let p = err_from_is_err_and c.from_residual-in_err-rows.result c.from_residual-in_err-rows.ensures.1 in
    rw (p.1, p.2) (λ other. refuses_then (g.met.R.SelectedRow.selects _ (c.requires.known made.1.0.was_open)) _ _ c.requires.idle (λ _. refl) made.1 _ _ (made.0 ∙ c.select.ensures) _ c.prepare.ensures.survives.counts c.prepare.ensures.survives.limit other (c.in_err-rows.ensures.err clean))
