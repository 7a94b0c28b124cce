use Rattle.std.proofs.Common.{[], ap, option_map, ◌∙◌}
use Rattle.std.specs.Prelude.{nat_lt}
use Rattle.mx_page.specs.EntryTexts.{entry_of}
use Rattle.mx_page.proofs.entry_texts.text_of_parts.Goals as goal

pub returns : goal.returns
returns c =
    let parts = c.args.parts.now in
    c.in_ok-bytes.ensures.ok _ (c.write_entry.ensures [] c.new-entry.ensures.text)
    ∙ ap (λ n. entry_of (nat_lt 0 n) parts.after.items parts.base parts.before.items parts.line.items (option_map (λ t. t.items) parts.resolution)) c.index.ensures.index
