use Rattle.mx_http.proofs.ReplyLemmas.{piece_and_rest}
use Rattle.mx_http.proofs.memory.replies.BytesPieces.take_piece.Goals as goal

pub returns-in-Ok : goal.returns-in-Ok
returns-in-Ok c = piece_and_rest 65536 c.args.self.now c.in-Ok.piece c.split_to.new.self c.in-Ok.ensures.front c.in-Ok.ensures.rest
