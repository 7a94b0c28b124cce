use Rattle.std.proofs.Common.{arith}
use Rattle.mx_body.proofs.PieceLemmas.{string-long}
use Rattle.mx_body.proofs.pieces.string_piece.Goals as goal

pub returns-then-text-room-clause-piece : goal.returns-then-text-room-clause-piece
returns-then-text-room-clause-piece c = string-long c.args.room c.args.text.now (omega arith)
