use Rattle.std.proofs.Common.{◌≡◌, codes, is_some, refl, sym, ap, ◌∙◌}
use Rattle.std.proofs.lemmas.Bool.{false≢true}
use Rattle.std.proofs.lemmas.Slice.Eq.{bytes_eq-Decides}
use Rattle.mx_body.specs.Bodies.{is_array_up_to, entries_up_to, texts_of, texts_within}
use Rattle.mx_body.proofs.PartLemmas.{part_pdus, part_edus, part_other, is_some-map}
use Rattle.mx_body.proofs.transactions.read_part.Goals as goal

pub returns-then-eq-clause-ok : goal.returns-then-eq-clause-ok
returns-then-eq-clause-ok c =
    let k = c.args.key.now in
    let is : k ≡ codes "pdus" = (bytes_eq-Decides k (codes "pdus")).0 (sym c.if-eq.ensures) in
    let done = c.in_ok-read_pdus.ensures.ok in
    record {
      value = done.value;
      read = done.read;
      readable = done.readable;
      parts = λ ms are. part_pdus c.args.largest k done.value ms c.args.parts (record { pdus = c.in_ok-read_pdus.read_pdus; has_few_edus = c.args.parts.has_few_edus }) are is done.texts_are refl;
    }

pub returns-then-eq-2-clause-ok : goal.returns-then-eq-2-clause-ok
returns-then-eq-2-clause-ok c =
    let k = c.args.key.now in
    let is : k ≡ codes "edus" = (bytes_eq-Decides k (codes "edus")).0 (sym c.if-eq-2.ensures) in
    let done = c.in_ok-read_edus.ensures.ok in
    let few : c.is_some.result ≡ is_array_up_to 100 done.value =
    c.is_some.ensures ∙ sym (is_some-map (λ all. texts_of all.items) c.in_ok-read_edus.read_edus) ∙ ap is_some done.texts_are ∙ is_some-map (texts_within 0) (entries_up_to 100 done.value) in
    record {
      value = done.value;
      read = done.read;
      readable = done.readable;
      parts = λ ms are. part_edus c.args.largest k done.value ms c.args.parts (record { pdus = c.args.parts.pdus; has_few_edus = c.is_some.result }) are is refl few;
    }

pub returns-clause-ok : goal.returns-clause-ok
returns-clause-ok c =
    let k = c.args.key.now in
    let done = c.in_ok-_piece.ensures.ok in
    record {
      value = done.value;
      read = done.read;
      readable = done.readable;
      parts = λ ms are. part_other c.args.largest k done.value ms c.args.parts c.args.parts are
          (λ e. false≢true (c.if-eq.ensures ∙ (bytes_eq-Decides k (codes "pdus")).1 e))
          (λ e. false≢true (c.if-eq-2.ensures ∙ (bytes_eq-Decides k (codes "edus")).1 e))
          refl;
    }
