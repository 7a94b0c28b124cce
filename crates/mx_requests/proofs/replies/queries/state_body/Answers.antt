use Rattle.std.proofs.Common.{[]}
use Rattle.mx_requests.proofs.replies.queries.state_body.Goals as goal

pub returns : goal.returns
returns c = c.in_ok-bytes.ensures.ok _ (c.write_state.ensures [] c.in_ok-body.ensures.text)
