use Rattle.std.proofs.Common.{◌++◌, ◌∷◌, [], codes, option_map, subst}
use Rattle.std.specs.Str.{chars}
use Rattle.serde_json.specs.Data.{string}
use Rattle.mx_canon.specs.Canonical.{value_text}
use Rattle.mx_lines.specs.Lines.{text_array}
use Rattle.mx_lines.specs.Written.{opened, with_members}
use Rattle.mx_audit.proofs.event_lines.write_head.Goals as goal

pub returns : goal.returns
unfolding chars
returns g c = λ taken had.
    let all = c.write_text_if.ensures _ (c.write_because.ensures _ (c.write_ids.ensures _ (c.open_line.ensures taken had))) in
    let auth = c.auth_events.ensures.ids in
    subst (g.S.TextSink.has_taken c.write_text_if.new.sink)
    (λ i. with_members (opened taken (codes "auth_events") ++ value_text (text_array (auth i)))
    ((codes "because", option_map string (option_map (λ t. t.items) c.args.parts.now.because)) ∷ (codes "check", option_map string (option_map (λ text. text.now) c.args.failed)) ∷ []))
    all
