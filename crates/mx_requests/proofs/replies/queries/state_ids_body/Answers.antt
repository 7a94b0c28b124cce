use Rattle.std.proofs.Common.{[]}
use Rattle.mx_requests.proofs.replies.queries.state_ids_body.Goals as goal

pub returns : goal.returns
returns c = c.in_ok-bytes.ensures.ok _ (c.write_state_ids.ensures [] c.in_ok-body.ensures.text)
