use Rattle.std.proofs.Common.{Some, inr, refl, sym, ap, ◌∙◌}
use Rattle.serde_json.specs.Read.{read}
use Rattle.mx_body.specs.Bodies.{bytes_of, json_of}
use Rattle.mx_body.proofs.BodyLemmas.{has_json, has_no_json, piece-within, reads_back, of_bytes, shallow-read}
use Rattle.mx_body.proofs.texts.event_text.Goals as goal

pub returns-in-Err-clause-err : goal.returns-in-Err-clause-err
returns-in-Err-clause-err c = inr (refl, has_no_json c.args.body.now c.in-Err.ensures.cases.0)

pub returns-clause-ok : goal.returns-clause-ok
returns-clause-ok c =
    let found = c.in_ok-piece.ensures.ok in
    let d = found.value in
    let text = ap read (sym c.in-Ok.ensures.cases.0) ∙ found.read in
    (d, has_json c.args.body.now (Some d) c.in-Ok.ensures.cases.1 text, c.within.ensures ∙ sym (piece-within c.args.largest d (bytes_of c.in_ok-piece.piece) found.readable found.text))

pub returns-clause-reads_back : goal.returns-clause-reads_back
returns-clause-reads_back c =
    let found = c.in_ok-piece.ensures.ok in
    let d = found.value in
    let text = ap read (sym c.in-Ok.ensures.cases.0) ∙ found.read in
    of_bytes c.within.result _ (json_of c.args.body.now) d
    (c.within.ensures ∙ sym (piece-within c.args.largest d (bytes_of c.in_ok-piece.piece) found.readable found.text))
    (has_json c.args.body.now (Some d) c.in-Ok.ensures.cases.1 text)
    (reads_back c.args.largest d found.readable (shallow-read c.args.body.now d text))
