use Rattle.std.proofs.Common.{to_z-of_z, w64, inl, inr}
use Rattle.std.proofs.lemmas.Str.{is_utf8-from_IsUtf8}
use Rattle.sqlite.proofs.StateLemmas.{survives_weaker}
use Rattle.mx_keeper.proofs.BookRowLemmas.{kept_with, puts_one}
use Rattle.mx_keeper.proofs.tables.book_tables.BookRowTableRow.insert.Goals as goal

pub returns-in-Ok-clause-kept : goal.returns-in-Ok-clause-kept
returns-in-Ok-clause-kept g c clean =
    let puts = rw (c.as_str.ensures.text, c.as_str-2.ensures.text, c.as_str-3.ensures.text, to_z-of_z {w = w64} {z = c.in-Some.place} c.in-Some.ensures.fits) at (c.in-Ok.ensures.ok clean) in
    let origin = is_utf8-from_IsUtf8 _ c.as_str.ensures.utf8 in
    let txn = is_utf8-from_IsUtf8 _ c.as_str-2.ensures.utf8 in
    let reply = is_utf8-from_IsUtf8 _ c.as_str-3.ensures.utf8 in
    kept_with _ _ (c.requires puts.was_open) c.args.self.now origin c.as_str.ensures.server_name txn reply _ c.in-Some.ensures.place.0 _ puts

pub returns-in-Ok-clause-row : goal.returns-in-Ok-clause-row
returns-in-Ok-clause-row g c clean =
    let puts = rw (c.as_str.ensures.text, c.as_str-2.ensures.text, c.as_str-3.ensures.text, to_z-of_z {w = w64} {z = c.in-Some.place} c.in-Some.ensures.fits) at (c.in-Ok.ensures.ok clean) in
    let origin = is_utf8-from_IsUtf8 _ c.as_str.ensures.utf8 in
    let txn = is_utf8-from_IsUtf8 _ c.as_str-2.ensures.utf8 in
    let reply = is_utf8-from_IsUtf8 _ c.as_str-3.ensures.utf8 in
    puts_one _ _ (c.requires puts.was_open) c.args.self.now origin c.as_str.ensures.server_name txn reply _ c.in-Some.ensures.place.0 _ puts.trees_are

pub returns-in-Ok-clause-survives : goal.returns-in-Ok-clause-survives
returns-in-Ok-clause-survives g c =
    let origin = is_utf8-from_IsUtf8 _ c.as_str.ensures.utf8 in
    let txn = is_utf8-from_IsUtf8 _ c.as_str-2.ensures.utf8 in
    let reply = is_utf8-from_IsUtf8 _ c.as_str-3.ensures.utf8 in
    survives_weaker _ _ _ _ (λ clean db put. (put.1, puts_one _ _ (c.requires put.0) c.args.self.now origin c.as_str.ensures.server_name txn reply _ c.in-Some.ensures.place.0 db (rw (c.as_str.ensures.text, c.as_str-2.ensures.text, c.as_str-3.ensures.text, to_z-of_z {w = w64} {z = c.in-Some.place} c.in-Some.ensures.fits) at put.2))) c.insert_reply.ensures.survives

pub returns-in-Err-clause-survives : goal.returns-in-Err-clause-survives
returns-in-Err-clause-survives g c =
    let origin = is_utf8-from_IsUtf8 _ c.as_str.ensures.utf8 in
    let txn = is_utf8-from_IsUtf8 _ c.as_str-2.ensures.utf8 in
    let reply = is_utf8-from_IsUtf8 _ c.as_str-3.ensures.utf8 in
    survives_weaker _ _ _ _ (λ clean db put. (put.1, puts_one _ _ (c.requires put.0) c.args.self.now origin c.as_str.ensures.server_name txn reply _ c.in-Some.ensures.place.0 db (rw (c.as_str.ensures.text, c.as_str-2.ensures.text, c.as_str-3.ensures.text, to_z-of_z {w = w64} {z = c.in-Some.place} c.in-Some.ensures.fits) at put.2))) c.insert_reply.ensures.survives

pub returns-in-Err-clause-refused : goal.returns-in-Err-clause-refused
returns-in-Err-clause-refused g c clean is =
    elim (c.in-Err.ensures.refused clean (λ short. let told = c.fault_of.ensures.memory.1 short in absurd cc)) [
      | inl may ↦ inl may
      | inr refused ↦ inr (inr (rw (c.as_str.ensures.text, c.as_str-2.ensures.text, c.as_str-3.ensures.text, to_z-of_z {w = w64} {z = c.in-Some.place} c.in-Some.ensures.fits, c.in-Some.ensures.place.0) at refused))
    ]
