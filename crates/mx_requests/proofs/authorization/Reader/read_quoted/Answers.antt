use Rattle.std.proofs.Common.{map, string_bytes, sym, ◌∙◌, lit<}
use Rattle.std.proofs.lemmas.Str.Pattern.{split_once_first}
use Rattle.mx_requests.specs.Reading.{part_shown}
use Rattle.mx_requests.proofs.ReadingLemmas.{quoted_at_once, split_at_quote}
use Rattle.mx_requests.proofs.authorization.Reader.read_quoted.Goals as goal

pub returns-clause-read : goal.returns-clause-read
returns-clause-read c =
    let self = c.args.self.now in
    let found = rw c.in-Some.is at (split_once_first 34 c.args.text.now c.split_once.result c.split_once.ensures.cases (lit< tt)) in
    quoted_at_once (map part_shown self.parts.items) self.place (string_bytes self.name) (string_bytes self.value) c.args.text.now c.in-Some.value.now c.in-Some.rest.now (string_bytes c.push_str.new.self)
    (sym c.is_in_quotes.ensures ∙ c.if-not-is_in_quotes.false)
    (split_at_quote c.args.text.now c.in-Some.value.now c.in-Some.rest.now found.0 found.1 found.2)
    (sym c.has_mark.ensures ∙ c.if-has_mark.false) c.in_ok-push_str.ensures.bytes
