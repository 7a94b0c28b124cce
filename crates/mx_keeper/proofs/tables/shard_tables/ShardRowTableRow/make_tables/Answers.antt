use Rattle.std.proofs.Common.{◌≡◌, arith, IsTrue, [], option_and_then, inl, inr, refl, sym, ap, ◌∙◌}
use Rattle.std.proofs.lemmas.Result.{err_from_is_err_and}
use Rattle.sqlite.specs.Held.{state}
use Rattle.sqlite.specs.State.{HasCleanDisk}
use Rattle.sqlite.specs.Effect.{Database}
use Rattle.mx_keeper.specs.FirstLayout.{with_versions}
use Rattle.mx_keeper.proofs.MoveLemmas.{refused_after}
use Rattle.mx_keeper.proofs.StayLemmas.{clean_if_open, idle_after}
use Rattle.mx_keeper.proofs.tables.shard_tables.ShardRowTableRow.make_tables.Goals as goal

pub lay_out-requires-2-clause-idle : goal.lay_out-requires-2-clause-idle
lay_out-requires-2-clause-idle g c live = idle_after _ _ (c.all_rows.ensures.stays (clean_if_open _ _ (g.met.S.Store.shut_if_dirty c.all_rows.new.connection.store) live) live)

pub lay_out-requires-2-clause-known : goal.lay_out-requires-2-clause-known
lay_out-requires-2-clause-known g c live =
    let s = c.all_rows.ensures.stays (clean_if_open _ _ (g.met.S.Store.shut_if_dirty c.all_rows.new.connection.store) live) live in
    inl (ap (λ (d : Database). d.schema) (s.now ∙ sym (c.requires.idle s.was_open).settled) ∙ sym c.schema-2.ensures.value ∙ c.has_kept.ensures.0 c.if-not-has_kept.false)

pub returns-in_err-lay_out-clause-refused : goal.returns-in_err-lay_out-clause-refused
returns-in_err-lay_out-clause-refused g c clean is =
    let p = err_from_is_err_and c.from_residual.result c.from_residual.ensures.1 in
    elim (c.in_err-lay_out.ensures.refused clean (let told = rw (p.1, p.2) at is in cc)) [
      | inl may ↦ inl may
      | inr refused ↦ inr ([], inr (sym c.schema.ensures.value ∙ c.has_nothing.ensures.0 c.if-has_nothing.true, refl), refused)
    ]

pub returns-in_err-lay_out-2-clause-refused : goal.returns-in_err-lay_out-2-clause-refused
returns-in_err-lay_out-2-clause-refused g c clean is =
    let p = err_from_is_err_and c.from_residual-in_err-lay_out-2.result c.from_residual-in_err-lay_out-2.ensures.1 in
    let s = c.lay_out-2.ensures.survives in
    let mid : HasCleanDisk (state g.S.Store c.all_rows.new.connection) = omega (arith, s.clean) in
    let same : IsTrue (state g.S.Store c.all_rows.new.connection).is_open → (state g.S.Store c.all_rows.new.connection).now ≡ (state g.S.Store c.args.connection.now).now = λ live.
    let stays = c.all_rows.ensures.stays mid live in stays.now ∙ sym (c.requires.idle stays.was_open).settled in
    let refused = c.in_err-lay_out-2.ensures.refused clean (let told = rw (p.1, p.2) at is in cc) in
    let whole = refused_after c.deref.result.now (state g.S.Store c.args.connection.now) (state g.S.Store c.all_rows.new.connection) (state g.S.Store c.lay_out-2.new.connection)
    (λ _. ⊥) c.all_rows.ensures.survives mid s.counts same refused in
    elim (rw c.deref.ensures.value at whole) [
      | inl may ↦ inl may
      | inr all ↦ inr (
        c.in_ok-rows.rows.items,
        inl (
          sym c.schema-2.ensures.value ∙ c.has_kept.ensures.0 c.if-not-has_kept.false,
          ap (option_and_then (with_versions [])) (c.in_ok-first.ensures.ok mid)
              ∙ c.in_ok-rows.ensures.ok,
        ),
        all,
      )
    ]
