use Rattle.std.proofs.Common.{◌≡◌, ◌+◌, ◌∷◌, ◌++◌, Some, None, drop, option_map, refl, sym, ap, subst, ◌∙◌}
use Rattle.std.proofs.lemmas.List.{drop_more, drop_all, length_push}
use Rattle.mx_keeper.specs.TableRows.{read_from}
use Rattle.mx_keeper.proofs.ReadLemmas.{begun, ended, stopped, stepped}
use Rattle.mx_keeper.proofs.tables.selected_rows.rows_of.Goals as goal

pub loop-row-init : goal.loop-row-init
loop-row-init g c = rw c.new-all.ensures.items (refl, begun _)

pub loop-row-preserved : goal.loop-row-preserved
loop-row-preserved g c =
    let i = c.loop-row.row-index in
    let rows = c.args.rows.now in
    let r = c.row-item.result in
    let within = c.loop-row-test.true in
    let at = c.loop-row.invariant.0 in
    let split : drop i rows ≡ r ∷ drop (i + 1) rows = drop_more rows i r within ∙ ap (λ y. y ∷ drop (i + 1) rows) (sym c.row-item.is) in
    let count : c.len.result ≡ i = c.len.ensures ∙ c.loop-row.all.ok.0 ∙ at in
    let read : g.R.SelectedRow.shown (i + 1) r ≡ Some c.in-Ok.read = subst (λ n. g.R.SelectedRow.shown (n + 1) r ≡ Some c.in-Ok.read) count c.in-Ok.ensures.ok in
    let step = stepped g.R.SelectedRow.shown c.loop-row.all.items (i + 1) r (drop (i + 1) rows) c.in-Ok.read read in
    let before = c.loop-row.invariant.1 in
    rw c.in_ok-push-in-Ok.ensures.items
    (length_push c.loop-row.all.items c.in-Ok.read ∙ ap (λ n. n + 1) at, step ∙ ap (λ rest. option_map (λ more. c.loop-row.all.items ++ more) (read_from g.R.SelectedRow.shown (i + 1) rest)) (sym split) ∙ before)

pub returns-in-Err-clause-table : goal.returns-in-Err-clause-table
returns-in-Err-clause-table g c is =
    let i = c.loop-row.row-index in
    let rows = c.args.rows.now in
    let r = c.row-item.result in
    let within = c.loop-row-test.true in
    let at = c.loop-row.invariant.0 in
    let split : drop i rows ≡ r ∷ drop (i + 1) rows = drop_more rows i r within ∙ ap (λ y. y ∷ drop (i + 1) rows) (sym c.row-item.is) in
    let count : c.len.result ≡ i = c.len.ensures ∙ c.loop-row.all.ok.0 ∙ at in
    let none : g.R.SelectedRow.shown (i + 1) r ≡ None = subst (λ n. g.R.SelectedRow.shown (n + 1) r ≡ None) count (c.in-Err.ensures.table (let e = is in cc)) in
    sym c.loop-row.invariant.1
    ∙ ap (λ rest. option_map (λ more. c.loop-row.all.items ++ more) (read_from g.R.SelectedRow.shown (i + 1) rest)) split
    ∙ stopped g.R.SelectedRow.shown c.loop-row.all.items (i + 1) r (drop (i + 1) rows) none

pub returns-clause-ok : goal.returns-clause-ok
returns-clause-ok g c =
    let i = c.loop-row.row-index in
    sym c.loop-row.invariant.1
    ∙ ap (λ rest. option_map (λ more. c.loop-row.all.items ++ more) (read_from g.R.SelectedRow.shown (i + 1) rest)) (drop_all i c.args.rows.now c.loop-row-test.false)
    ∙ ended g.R.SelectedRow.shown c.loop-row.all.items (i + 1)
