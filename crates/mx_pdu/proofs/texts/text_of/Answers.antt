use Rattle.std.proofs.Common.{◌≡◌, ap, ◌∙◌, string_bytes}
use Rattle.serde_json.specs.Data.{depth}
use Rattle.serde_json.specs.Read.{max_depth, read}
use Rattle.serde_json.specs.View.{view}
use Rattle.mx_pdu.proofs.FormatLemmas.{formed, nesting-fits}
use Rattle.mx_pdu.proofs.TextLemmas.{low-enough, no-error}
use Rattle.mx_pdu.proofs.texts.text_of.Goals as goal

pub text_of_canonical-requires-clause-canonical : goal.text_of_canonical-requires-clause-canonical
text_of_canonical-requires-clause-canonical c = no-error (view c.args.value.now) (formed _ c.requires.well_formed).canonical

pub returns-clause-reads : goal.returns-clause-reads
returns-clause-reads c =
    let d = view c.args.value.now in
    let bytes : string_bytes c.in-Ok.text ≡ c.in_ok-bytes.bytes.items = ap (λ v. v.items) c.in-Ok.ensures.ok ∙ c.shrink_to_fit.ensures.items in
    ap read bytes ∙ (c.in_ok-bytes.ensures.reads_back (low-enough (depth d) max_depth (nesting-fits d c.requires.well_formed))).1
