use Rattle.std.proofs.Common.{◌≡◌, true, None, Some, codes, ap, sym, subst, ◌∙◌, ◌++◌}
use Rattle.std.specs.Prelude.{if◌then◌else◌}
use Rattle.std.specs.Str.{chars}
use Rattle.serde_json.specs.Data.{string}
use Rattle.mx_canon.specs.Canonical.{canonical_text, string_text}
use Rattle.mx_canon.specs.Pieces.{comma_if}
use Rattle.mx_lines.specs.Contents.{cut_text, is_whole}
use Rattle.mx_lines.specs.Written.{with_member}
use Rattle.mx_lines.proofs.contents.write_content.Goals as goal

pub returns-then-is_whole : goal.returns-then-is_whole
unfolding canonical_text chars
returns-then-is_whole g c = λ content taken is had.
    let whole : true ≡ is_whole c.args.is_state (canonical_text content) = sym c.if-is_whole.true ∙ c.is_whole.ensures.whole ∙ ap (is_whole c.args.is_state) is in
    let all = subst (λ t. g.S.TextSink.has_taken c.put.new.self (((taken ++ comma_if true) ++ (string_text (codes "content") ++ codes ":")) ++ t)) is (c.put.ensures _ (c.write_key.ensures _ had)) in
    subst (λ b. g.S.TextSink.has_taken c.put.new.self (with_member (with_member taken (codes "content", if b then Some content else None)) (codes "content_cut", if b then None else Some (string (cut_text (canonical_text content)))))) whole all
