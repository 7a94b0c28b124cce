use Rattle.std.proofs.Common.{to_z-of_z, w64, inl, inr}
use Rattle.std.proofs.lemmas.Str.{is_utf8-from_IsUtf8}
use Rattle.sqlite.proofs.StateLemmas.{survives_weaker}
use Rattle.mx_keeper.proofs.ShardRowLemmas.{kept_with, puts_one}
use Rattle.mx_keeper.proofs.tables.shard_tables.ShardRowTableRow.insert.Goals as goal

pub returns-in-Ok-insert_kept-clause-kept : goal.returns-in-Ok-insert_kept-clause-kept
returns-in-Ok-insert_kept-clause-kept g c clean =
    let puts = rw (c.as_str.ensures.text, to_z-of_z {w = w64} {z = c.in-Ok.cells.place} c.in-Ok.ensures.fits) at (c.in-Ok-insert_kept.ensures.ok clean) in
    let utf8 = is_utf8-from_IsUtf8 _ c.as_str.ensures.utf8 in
    kept_with _ _ (c.requires puts.was_open) c.args.self.now _ utf8 c.as_str.ensures.room_id c.in-Ok.ensures.event _ _ c.in-Ok.ensures.place.0 c.in-Ok.ensures.caller _ puts

pub returns-in-Ok-insert_kept-clause-row : goal.returns-in-Ok-insert_kept-clause-row
returns-in-Ok-insert_kept-clause-row g c clean =
    let puts = rw (c.as_str.ensures.text, to_z-of_z {w = w64} {z = c.in-Ok.cells.place} c.in-Ok.ensures.fits) at (c.in-Ok-insert_kept.ensures.ok clean) in
    let utf8 = is_utf8-from_IsUtf8 _ c.as_str.ensures.utf8 in
    puts_one _ _ (c.requires puts.was_open) c.args.self.now _ utf8 c.as_str.ensures.room_id c.in-Ok.ensures.event _ _ c.in-Ok.ensures.place.0 c.in-Ok.ensures.caller _ puts.trees_are

pub returns-in-Ok-insert_kept-clause-survives : goal.returns-in-Ok-insert_kept-clause-survives
returns-in-Ok-insert_kept-clause-survives g c =
    let utf8 = is_utf8-from_IsUtf8 _ c.as_str.ensures.utf8 in
    survives_weaker _ _ _ _ (λ clean db put. (
      put.1,
      puts_one _ _ (c.requires put.0) c.args.self.now _ utf8 c.as_str.ensures.room_id c.in-Ok.ensures.event _ _ c.in-Ok.ensures.place.0 c.in-Ok.ensures.caller db
          (rw (c.as_str.ensures.text, to_z-of_z {w = w64} {z = c.in-Ok.cells.place} c.in-Ok.ensures.fits) at put.2),
    )) c.insert_kept.ensures.survives

pub returns-in-Err-insert_kept-clause-survives : goal.returns-in-Err-insert_kept-clause-survives
returns-in-Err-insert_kept-clause-survives g c =
    let utf8 = is_utf8-from_IsUtf8 _ c.as_str.ensures.utf8 in
    survives_weaker _ _ _ _ (λ clean db put. (
      put.1,
      puts_one _ _ (c.requires put.0) c.args.self.now _ utf8 c.as_str.ensures.room_id c.in-Ok.ensures.event _ _ c.in-Ok.ensures.place.0 c.in-Ok.ensures.caller db
          (rw (c.as_str.ensures.text, to_z-of_z {w = w64} {z = c.in-Ok.cells.place} c.in-Ok.ensures.fits) at put.2),
    )) c.insert_kept.ensures.survives

pub returns-in-Err-insert_kept-clause-refused : goal.returns-in-Err-insert_kept-clause-refused
returns-in-Err-insert_kept-clause-refused g c clean is =
    elim (c.in-Err-insert_kept.ensures.refused clean (λ short. let told = c.fault_of.ensures.memory.1 short in absurd cc)) [
      | inl may ↦ inl may
      | inr refused ↦ inr (inr (
        c.in-Ok.cells.event.now,
        c.in-Ok.ensures.event,
        rw (c.as_str.ensures.text, to_z-of_z {w = w64} {z = c.in-Ok.cells.place} c.in-Ok.ensures.fits, c.in-Ok.ensures.place.0, c.in-Ok.ensures.caller.0) at refused,
      ))
    ]
