use Rattle.std.proofs.Common.{to_z-of_z, w64}
use Rattle.std.proofs.lemmas.Result.{on_ok_weaker}
use Rattle.std.proofs.lemmas.Str.{is_utf8-from_IsUtf8}
use Rattle.mx_keeper.proofs.MoveLemmas.{adds, one_more_row, row_done, stops_row}
use Rattle.mx_keeper.proofs.ShardTableLemmas.{inserted_kept}
use Rattle.mx_keeper.proofs.tables.second_layout.add_row.Goals as goal

pub returns-clause-ok : goal.returns-clause-ok
returns-clause-ok g c clean =
    let cells = c.in_ok-cells.ensures in
    on_ok_weaker c.run.result (λ run.
    let added = (adds (inserted_kept _ _ _ _ _) _ _ c.requires.inside
    (rw (c.params-to_sql.ensures, c.params-to_sql-2.ensures, c.params-to_sql-3.ensures, c.params-to_sql-4.ensures, c.params-to_sql-5.ensures, c.as_str.ensures.text, c.text-named.ensures, to_z-of_z {w = w64} {z = c.in_ok-cells.cells.place} cells.fits) at run)).1 in
    record {
      was_open = added.was_open;
      is_open = added.is_open;
      inside = added.inside;
      committed = added.committed;
      trees_are = one_more_row c.args.count c.args.row.now _ cells.event _ _ cells.place.0 cells.caller _ _ (is_utf8-from_IsUtf8 _ c.as_str.ensures.utf8) c.as_str.ensures.room_id (c.requires.read added.was_open) added.trees_are;
    }) (c.run.ensures.ok clean)

pub returns-clause-refused : goal.returns-clause-refused
returns-clause-refused g c clean is =
    let cells = c.in_ok-cells.ensures in
    stops_row c.args.count c.args.row.now _ cells.event _ _ cells.place.0 cells.caller _ _ c.requires.inside
    (rw (c.params-to_sql.ensures, c.params-to_sql-2.ensures, c.params-to_sql-3.ensures, c.params-to_sql-4.ensures, c.params-to_sql-5.ensures, c.as_str.ensures.text, c.text-named.ensures, to_z-of_z {w = w64} {z = c.in_ok-cells.cells.place} cells.fits) at (c.run.ensures.refused clean is))

pub returns-clause-done : goal.returns-clause-done
returns-clause-done g c clean =
    let cells = c.in_ok-cells.ensures in
    on_ok_weaker c.run.result (λ run _. row_done c.args.count c.args.row.now _ cells.event _ _ cells.place.0 cells.caller _ _ c.requires.inside
    (rw (
      c.params-to_sql.ensures,
      c.params-to_sql-2.ensures,
      c.params-to_sql-3.ensures,
      c.params-to_sql-4.ensures,
      c.params-to_sql-5.ensures,
      c.as_str.ensures.text,
      c.text-named.ensures,
      to_z-of_z {w = w64} {z = c.in_ok-cells.cells.place} cells.fits,
    ) at run)) (c.run.ensures.ok clean)
