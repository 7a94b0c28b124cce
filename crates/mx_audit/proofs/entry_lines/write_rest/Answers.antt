use Rattle.std.proofs.Common.{subst}
use Rattle.std.specs.Str.{chars}
use Rattle.mx_audit.specs.Written.{rest_written}
use Rattle.mx_audit.proofs.entry_lines.write_rest.Goals as goal

pub returns : goal.returns
unfolding chars
returns g c = λ taken had.
    let all = c.put.ensures _ (c.write_string-2.ensures _ (c.write_key-2.ensures _ (c.write_string.ensures _ (c.write_key.ensures taken had)))) in
    let kind = c.as_bytes-2.ensures.value in
    let key = c.as_bytes.ensures.value in
    subst (g.S.TextSink.has_taken c.put.new.self) (λ i. rest_written taken (kind i, key i)) all
