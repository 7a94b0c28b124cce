use Rattle.std.proofs.Common.{arith, [], inl}
use Rattle.std.proofs.lemmas.Result.{err_from_is_err_and}
use Rattle.sqlite.specs.Held.{state}
use Rattle.sqlite.specs.State.{HasCleanDisk}
use Rattle.sqlite.proofs.StateLemmas.{survives_then}
use Rattle.mx_keeper.proofs.BookTableLemmas.{created_replies}
use Rattle.mx_keeper.proofs.TableLemmas.{creates_then, commits_made, refuses_made, refuses_to_create}
use Rattle.mx_keeper.proofs.tables.book_tables.create_replies.Goals as goal

pub returns-clause-ok : goal.returns-clause-ok
returns-clause-ok g c clean =
    let s = c.execute.ensures.survives.clean in
    let first : HasCleanDisk (state g.S.Store c.prepare.new.self) = omega arith in
    let made = c.in_ok-create.ensures.ok first in
    creates_then created_replies _ _ c.requires.idle c.requires.schema made.1 _ c.execute.result _ made.0 (c.execute.ensures.runs clean)

pub returns-clause-survives : goal.returns-clause-survives
returns-clause-survives g c =
    survives_then _ _ _ (λ _. ⊥) _ _ (λ _ db none. absurd none) (λ clean db put.
    let s = c.execute.ensures.survives.clean in
    let first : HasCleanDisk (state g.S.Store c.prepare.new.self) = omega arith in
    let made = c.in_ok-create.ensures.ok first in
    commits_made created_replies _ _ c.requires.idle c.requires.schema made.1 db _ made.0 put
    ) c.prepare.ensures.survives c.execute.ensures.survives

pub returns-in_err-create-clause-refused : goal.returns-in_err-create-clause-refused
returns-in_err-create-clause-refused g c clean =
    let p = err_from_is_err_and c.from_residual.result c.from_residual.ensures.1 in
    rw (p.1, p.2) (λ other. inl (refuses_to_create created_replies _ _ c.requires.schema _ other (c.in_err-create.ensures.err clean [])))

pub returns-clause-refused : goal.returns-clause-refused
returns-clause-refused g c clean =
    let s = c.execute.ensures.survives.clean in
    let first : HasCleanDisk (state g.S.Store c.prepare.new.self) = omega arith in
    let made = c.in_ok-create.ensures.ok first in
    refuses_made created_replies _ _ c.requires.idle c.requires.schema made.1 _ c.execute.result _ made.0 c.prepare.ensures.survives.counts c.prepare.ensures.survives.limit (c.execute.ensures.runs clean)
