use Rattle.std.proofs.Common.{◌≡◌, fold}
use Rattle.std.specs.Str.Iter.{chars_rest}
use Rattle.mx_requests.specs.Authorization.{feed}
use Rattle.mx_requests.specs.Reading.{reading_of}
use Rattle.mx_requests.proofs.authorization.Reader.read.Given as goal

abbrev pub invariant-loop-character : goal.invariant-loop-character
invariant-loop-character l =
    fold feed (reading_of l.self) (chars_rest l.character-iterator) ≡ fold feed (reading_of l.fn.self) l.fn.text
