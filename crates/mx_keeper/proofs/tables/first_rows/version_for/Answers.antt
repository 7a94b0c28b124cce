use Rattle.std.proofs.Common.{List, ℕ, Some, cond, sym, ap, ◌∙◌}
use Rattle.std.specs.BTreeMap.{get}
use Rattle.std.specs.Cmp.Lexicographic.{slice_cmp}
use Rattle.std.specs.Ordering.{is_eq, nat_cmp}
use Rattle.mx_keeper.proofs.FirstRowLemmas.{noted_now}
use Rattle.mx_keeper.proofs.tables.first_rows.version_for.Goals as goal

pub returns-clause-noted : goal.returns-clause-noted
returns-clause-noted c = λ room.
    noted_now c.args.versions.now c.args.row.now c.insert.new.self c.created_version-version.result c.created_version-version.ensures (sym c.in_default.ensures.value) room
    (c.in_ok-insert.ensures.updates.0 room
    ∙ ap (λ (k : List ℕ). cond (is_eq (slice_cmp nat_cmp k room)) (Some c.created_version-version.result) (get (slice_cmp nat_cmp) c.args.versions.now room)) c.in_ok-room.ensures.cases)
