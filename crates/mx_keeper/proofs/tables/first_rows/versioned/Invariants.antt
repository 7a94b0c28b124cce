use Rattle.std.proofs.Common.{◌≡◌, ℕ, ◌++◌, [], List, option_map}
use Rattle.std.specs.BTreeMap.{get}
use Rattle.std.specs.Cmp.Lexicographic.{slice_cmp}
use Rattle.std.specs.Ordering.{nat_cmp}
use Rattle.mx_keeper.specs.FirstLayout.{version_among, with_versions}
use Rattle.mx_keeper.specs.declared.tables.first_rows.FirstRow.{FirstRow}
use Rattle.mx_keeper.proofs.tables.first_rows.versioned.Given as goal

-- what was read, what is left, and what was noted of the rooms so far
abbrev pub invariant-loop-row : goal.invariant-loop-row
invariant-loop-row l = record {
  done : List FirstRow;
  read : option_map (λ more. l.all.items ++ more) (with_versions done l.row-iterator.rest.items) ≡ with_versions [] l.fn.rows.items;
  noted : (room : List ℕ) → get (slice_cmp nat_cmp) l.versions room ≡ version_among done room;
}
