use Rattle.std.proofs.Common.{sym}
use Rattle.mx_pdu.proofs.EventTextLemmas.{reads_event}
use Rattle.mx_pdu.proofs.FormatLemmas.{formed}
use Rattle.mx_pdu.proofs.TextLemmas.{no-error}
use Rattle.mx_keeper.proofs.event_texts.text_of.Goals as goal

pub returns : goal.returns
returns c =
    let it = c.text.ensures in
    reads_event c.text.result.now c.args.event.now (c.text.utf8, it.reads) (no-error c.args.event.now (formed c.args.event.now it.well_formed).canonical) it.well_formed (sym it.text)
