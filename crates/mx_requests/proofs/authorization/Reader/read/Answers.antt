use Rattle.std.proofs.Common.{ap, sym, ◌∙◌, fold}
use Rattle.std.specs.Char.{encode_utf8}
use Rattle.std.specs.Str.Iter.{chars_rest}
use Rattle.std.proofs.lemmas.List.Sums.{fold-append}
use Rattle.mx_requests.specs.Authorization.{feed}
use Rattle.mx_requests.specs.Reading.{reading_of}
use Rattle.mx_requests.proofs.ReadingLemmas.{feed_character}
use Rattle.mx_requests.proofs.authorization.Reader.read.Goals as goal

pub loop-character-preserved : goal.loop-character-preserved
loop-character-preserved c =
    let before = reading_of c.loop-character.self in
    let rest = chars_rest c.next.new.self in
    let letter = c.in-Some.character in
    ap (λ r. fold feed r rest) (c.in_ok-feed.ensures ∙ sym (feed_character before letter))
    ∙ sym (fold-append feed before (encode_utf8 letter) rest)
    ∙ ap (fold feed before) (sym c.in-Some.ensures.steps.0)
    ∙ c.loop-character.invariant
