use Rattle.std.proofs.Common.{◌≡◌, ◌<◌, ◌++◌, ◌∷◌, [], length, refl, sym, ap, ◌∙◌, subst, arith, None, append_assoc}
use Rattle.json.specs.Json.{after_end_array, value}
use Rattle.serde_json.specs.Data.{array, item, no_items}
use Rattle.mx_redact.specs.Fields.{item_list}
use Rattle.mx_body.specs.Bodies.{bytes_of, texts_of}
use Rattle.mx_body.specs.Pieces.{IsPieceOf}
use Rattle.mx_body.proofs.ItemLemmas.{items_begin, items_more, items_fail, items_over_all}
use Rattle.mx_body.proofs.EntryLemmas.{entries_are}
use Rattle.mx_body.proofs.entries.read_entries.Goals as goal

pub items-init : goal.items-init
items-init c = (λ rest. rest, [], items_begin (value 125) c.args.reader.now, λ rest. refl, (refl, omega arith, ap texts_of c.new.ensures.items))

pub returns-in_err-piece-clause-err : goal.returns-in_err-piece-clause-err
returns-in_err-piece-clause-err c = λ refused.
    let l = c.items in
    let (front, ds, read, same, are) = l.invariant in
    let going : (after_end_array l.reader ≡ None) × (c.take_end_array.new.self ≡ l.reader) = grind arith in
    items_fail (value 125) c.args.reader.now l.reader front read going.0 (rw (← going.1) (c.read.ensures.err (grind arith)))

pub items-preserved : goal.items-preserved
items-preserved c =
    let l = c.items in
    let (front, ds, read, same, are) = l.invariant in
    let going : (after_end_array l.reader ≡ None) × (c.take_end_array.new.self ≡ l.reader) = grind arith in
    let done = c.in_ok-piece.ensures in
    let d = done.ok.value in
    let less : length c.read.new.reader < length l.reader = rw (← going.1) done.shorter in
    let fits = subst (λ room. IsPieceOf room d (bytes_of c.in_ok-piece.piece)) c.entry_room-room.ensures done.ok.text in (
      λ rest. front (item d rest),
      ds ++ d ∷ [],
      items_more (value 125) c.args.reader.now l.reader c.read.new.reader front d read going.0 (rw (← going.1) done.ok.read) done.ok.readable less,
      λ rest. same (item d rest) ∙ sym (append_assoc ds (d ∷ []) (item_list rest)),
      c.in_ok-found.ensures ds d are fits done.ok.readable,
    )

pub returns-clause-ok : goal.returns-clause-ok
returns-clause-ok c =
    let l = c.items in
    let (front, ds, read, same, are) = l.invariant in
    let r = c.take_end_array.new.self in
    record {
      value = array (front no_items);
      read = items_over_all (value 125) c.args.reader.now l.reader r front read (grind arith);
      readable = read.readable no_items tt;
      texts_are = c.texts_among.ensures ∙ entries_are c.args.most c.args.largest ds (front no_items) l.found (same no_items) are;
    }
