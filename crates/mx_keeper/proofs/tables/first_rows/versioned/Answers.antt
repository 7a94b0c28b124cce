use Rattle.std.proofs.Common.{◌≡◌, ℕ, ◌++◌, ◌∷◌, [], List, Some, None, sym, ap, ◌∙◌}
use Rattle.std.specs.Prelude.{bytes_eq, cond, option_map}
use Rattle.std.specs.Option.{option_or}
use Rattle.std.specs.BTreeMap.{get}
use Rattle.std.specs.Cmp.Lexicographic.{slice_cmp}
use Rattle.std.specs.Ordering.{nat_cmp}
use Rattle.mx_keeper.specs.FirstLayout.{created_version, flat, version_among, with_versions}
use Rattle.mx_keeper.proofs.FirstRowLemmas.{among_push, row_refused, row_taken}
use Rattle.mx_keeper.proofs.tables.first_rows.versioned.Goals as goal

pub loop-row-preserved : goal.loop-row-preserved
loop-row-preserved c =
    let inv = c.loop-row.invariant in
    let row = c.in-Some.row in
    let rest = c.next.new.self.rest.items in
    let noted : (room : List ℕ) → get (slice_cmp nat_cmp) c.version_for.new.versions room ≡ version_among (inv.done ++ row ∷ []) room =
    λ room. c.in_ok-found.ensures.noted room ∙ ap (λ o. option_or o (cond (bytes_eq row.room room) (Some (created_version row.event)) None)) (inv.noted room) ∙ sym (among_push inv.done row room) in
    let version : flat (version_among (inv.done ++ row ∷ []) row.room) ≡ Some c.in-Some-found.version = ap flat (sym (noted row.room) ∙ c.in_ok-found.ensures.found) ∙ c.in-Some-found.is in
    rw c.in_ok-push-in-Some-found.ensures.items (record {
      done = inv.done ++ row ∷ [];
      read = row_taken c.loop-row.all.items inv.done row rest c.in-Some-found.version version
          ∙ ap (λ rows. option_map (λ more. c.loop-row.all.items ++ more) (with_versions inv.done rows)) (sym c.in-Some.ensures.steps.0) ∙ inv.read;
      noted = noted;
    })

pub returns-in-None-found-clause-table : goal.returns-in-None-found-clause-table
returns-in-None-found-clause-table c is =
    let inv = c.loop-row.invariant in
    let row = c.in-Some.row in
    let noted : get (slice_cmp nat_cmp) c.version_for.new.versions row.room ≡ version_among (inv.done ++ row ∷ []) row.room =
    c.in_ok-found.ensures.noted row.room ∙ ap (λ o. option_or o (cond (bytes_eq row.room row.room) (Some (created_version row.event)) None)) (inv.noted row.room) ∙ sym (among_push inv.done row row.room) in
    let version : flat (version_among (inv.done ++ row ∷ []) row.room) ≡ None = ap flat (sym noted ∙ c.in_ok-found.ensures.found) ∙ c.in-None-found.is in
    sym inv.read ∙ ap (λ rows. option_map (λ more. c.loop-row.all.items ++ more) (with_versions inv.done rows)) c.in-Some.ensures.steps.0
    ∙ row_refused c.loop-row.all.items inv.done row c.next.new.self.rest.items version
