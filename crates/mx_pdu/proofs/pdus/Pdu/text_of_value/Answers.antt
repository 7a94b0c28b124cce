use Rattle.serde_json.specs.Data.{depth}
use Rattle.serde_json.specs.Read.{max_depth}
use Rattle.serde_json.specs.View.{view}
use Rattle.mx_pdu.proofs.FormatLemmas.{formed-from-none, nesting-fits}
use Rattle.mx_pdu.proofs.TextLemmas.{low-enough}
use Rattle.mx_pdu.proofs.pdus.Pdu.text_of_value.Goals as goal

pub returns-in_ok-check_canonical_format-in-Some-clause-reads : goal.returns-in_ok-check_canonical_format-in-Some-clause-reads
returns-in_ok-check_canonical_format-in-Some-clause-reads c =
    let event = view c.args.value.now in
    c.in-Some.ensures.reads (low-enough (depth event) max_depth (nesting-fits event (formed-from-none event c.in_ok-check_canonical_format-in-Some.ensures.answer)))
