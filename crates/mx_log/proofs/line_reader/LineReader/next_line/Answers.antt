use Rattle.std.proofs.Common.{◌≡◌, ◌<◌, [], true, false, not, Ok, ap, length, vec_len}
use Rattle.std.proofs.lemmas.Bool.{not-true, not-false}
use Rattle.mx_log.specs.LineReading.{left}
use Rattle.mx_log.proofs.LineReadingLemmas.{ended_taken, last_taken, none-left, none_taken, some-left}
use Rattle.mx_log.proofs.line_reader.LineReader.next_line.Goals as goal

pub returns-then-branch-clause-line : goal.returns-then-branch-clause-line
returns-then-branch-clause-line g c = λ _.
    ended_taken (left c.args.self.now (g.R.Read.remaining c.args.input.now)) (left c.read_line.new.self (g.R.Read.remaining c.read_line.new.input)) c.read_line.new.line.items
    c.in_ok-read_line.ensures.one (c.in_ok-read_line.ensures.ended (ap Ok c.if-branch.true))

pub returns-clause-line : goal.returns-clause-line
returns-clause-line g c = λ is.
    let kept : not c.is_empty.result ≡ true = cc in
    let some : 0 < length c.read_line.new.line.items = some-left c.read_line.new.line.items (vec_len c.read_line.new.line) c.is_empty.result c.is_empty.ensures c.read_line.new.line.ok.0 (not-true c.is_empty.result kept) in
    last_taken (left c.args.self.now (g.R.Read.remaining c.args.input.now)) (left c.read_line.new.self (g.R.Read.remaining c.read_line.new.input)) c.read_line.new.line.items
    c.in_ok-read_line.ensures.one (c.in_ok-read_line.ensures.last (ap Ok c.if-branch.false)) (c.in_ok-read_line.ensures.end (ap Ok c.if-branch.false)) some

pub returns-clause-none : goal.returns-clause-none
returns-clause-none g c = λ is.
    let gone : not c.is_empty.result ≡ false = cc in
    let none : c.read_line.new.line.items ≡ [] = none-left c.read_line.new.line.items (vec_len c.read_line.new.line) c.is_empty.result c.is_empty.ensures c.read_line.new.line.ok.0 (not-false c.is_empty.result gone) in
    none_taken (left c.args.self.now (g.R.Read.remaining c.args.input.now)) (left c.read_line.new.self (g.R.Read.remaining c.read_line.new.input)) c.read_line.new.line.items
    (c.in_ok-read_line.ensures.last (ap Ok c.if-branch.false)) (c.in_ok-read_line.ensures.end (ap Ok c.if-branch.false)) none
