use Rattle.std.proofs.Common.{rules, sym, ◌∙◌}
use Rattle.serde_json.specs.View.{view}
use Rattle.mx_pdu.proofs.EventTextLemmas.{no_json, no_canonical, no_same_text}
use Rattle.mx_pdu.proofs.reading.value_with_text.Goals as goal

pub returns-in-Err-NotJson-clause-none : goal.returns-in-Err-NotJson-clause-none
returns-in-Err-NotJson-clause-none c _ = no_json c.args.text.now (c.in-Err-NotJson.ensures.not_json (search rules))

pub returns-in-Err-NotCanonical-clause-none : goal.returns-in-Err-NotCanonical-clause-none
returns-in-Err-NotCanonical-clause-none c _ =
    let it = c.in-Err-NotCanonical.ensures.not_canonical c.in-Err-NotCanonical.field-0-0 (search rules) in
    no_canonical c.args.text.now it.0 it.1 _ it.2

pub returns-else-is_text_of-clause-none : goal.returns-else-is_text_of-clause-none
returns-else-is_text_of-clause-none c _ = no_same_text c.args.text.now (view c.in-Ok.value) c.in-Ok.ensures.json (sym c.is_text_of.ensures ∙ c.if-is_text_of.false)
