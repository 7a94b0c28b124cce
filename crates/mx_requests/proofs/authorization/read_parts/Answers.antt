use Rattle.std.proofs.Common.{rules, lit<, ◌∙◌}
use Rattle.std.proofs.lemmas.Str.Pattern.{split_once_first}
use Rattle.mx_requests.specs.Reading.{reading_of}
use Rattle.mx_requests.proofs.ReadingLemmas.{read_past, split_at_quote}
use Rattle.mx_requests.proofs.authorization.read_parts.Goals as goal

pub loop-before-preserved : goal.loop-before-preserved
loop-before-preserved c =
    let text = c.loop-before.rest.now in
    let before = c.in-Some.before.now in
    let after = c.in-Some.after.now in
    let found = rw c.in-Some.is at (split_once_first 34 text c.split_once.result c.split_once.ensures.cases (lit< tt)) in (
      search rules,
      read_past (reading_of c.loop-before.reader) (reading_of c.read.new.self) (reading_of c.feed.new.self) (reading_of c.read_quoted.new.self) text before after c.in_ok-rest.rest.now
          (split_at_quote text before after found.0 found.1 found.2) c.in_ok-read.ensures c.in_ok-feed.ensures c.in_ok-rest.ensures.read
          ∙ c.loop-before.invariant.1,
    )
