use Rattle.std.proofs.Common.{to_z-of_z, w64, arith, [], inl}
use Rattle.std.proofs.lemmas.Result.{err_from_is_err_and}
use Rattle.sqlite.specs.Held.{state}
use Rattle.sqlite.specs.State.{HasCleanDisk}
use Rattle.sqlite.proofs.StateLemmas.{survives_then}
use Rattle.mx_keeper.proofs.StayLemmas.{on_err, stays_not_run, stays_then}
use Rattle.mx_keeper.proofs.BookTableLemmas.{inserted_reply}
use Rattle.mx_keeper.proofs.TableLemmas.{inserts_then, commits_then, refuses_then, refuses_to_add}
use Rattle.mx_keeper.proofs.tables.book_tables.insert_reply.Goals as goal

pub returns-in_err-insert-clause-err : goal.returns-in_err-insert-clause-err
returns-in_err-insert-clause-err g c clean = on_err _ (stays_not_run _ _ c.requires.idle _ [] _ (c.in_err-insert.ensures.err clean []))

pub returns-clause-ok : goal.returns-clause-ok
returns-clause-ok g c clean =
    let s = c.execute.ensures.survives.clean in
    let first : HasCleanDisk (state g.S.Store c.prepare.new.self) = omega arith in
    let made = c.in_ok-insert.ensures.ok first in
    inserts_then (inserted_reply _ _ _ _) _ _ c.requires.idle c.requires.schema made.1 _ c.execute.result _ made.0
    (rw (c.params-to_sql.ensures, c.params-to_sql-2.ensures, c.params-to_sql-3.ensures, c.params-to_sql-4.ensures, to_z-of_z {w = w64} {z = c.args.place} c.ranges.place) at c.execute.ensures.runs clean)

pub returns-clause-err : goal.returns-clause-err
returns-clause-err g c clean =
    let s = c.execute.ensures.survives.clean in
    let first : HasCleanDisk (state g.S.Store c.prepare.new.self) = omega arith in
    let made = c.in_ok-insert.ensures.ok first in
    stays_then _ _ _ c.requires.idle made.1 _ _ c.execute.result (c.execute.ensures.runs clean)

pub returns-clause-survives : goal.returns-clause-survives
returns-clause-survives g c =
    survives_then _ _ _ (λ _. ⊥) _ _ (λ _ db none. absurd none) (λ clean db put.
    let s = c.execute.ensures.survives.clean in
    let first : HasCleanDisk (state g.S.Store c.prepare.new.self) = omega arith in
    let made = c.in_ok-insert.ensures.ok first in
    commits_then (inserted_reply _ _ _ _) _ _ c.requires.idle c.requires.schema made.1 db _ made.0
    (rw (c.params-to_sql.ensures, c.params-to_sql-2.ensures, c.params-to_sql-3.ensures, c.params-to_sql-4.ensures, to_z-of_z {w = w64} {z = c.args.place} c.ranges.place) at put)
    ) c.prepare.ensures.survives c.execute.ensures.survives

pub returns-in_err-insert-clause-refused : goal.returns-in_err-insert-clause-refused
returns-in_err-insert-clause-refused g c clean =
    let p = err_from_is_err_and c.from_residual.result c.from_residual.ensures.1 in
    rw (p.1, p.2) (λ other. inl (refuses_to_add (inserted_reply c.args.place c.args.origin.now c.args.txn.now c.args.reply.now) _ _ c.requires.schema _ other (c.in_err-insert.ensures.err clean _)))

pub returns-clause-refused : goal.returns-clause-refused
returns-clause-refused g c clean =
    let s = c.execute.ensures.survives.clean in
    let first : HasCleanDisk (state g.S.Store c.prepare.new.self) = omega arith in
    let made = c.in_ok-insert.ensures.ok first in
    refuses_then (inserted_reply _ _ _ _) _ _ c.requires.idle c.requires.schema made.1 _ c.execute.result _ made.0 c.prepare.ensures.survives.counts c.prepare.ensures.survives.limit
    (rw (c.params-to_sql.ensures, c.params-to_sql-2.ensures, c.params-to_sql-3.ensures, c.params-to_sql-4.ensures, to_z-of_z {w = w64} {z = c.args.place} c.ranges.place) at c.execute.ensures.runs clean)
