use Rattle.std.proofs.Common.{[]}
use Rattle.mx_requests.proofs.replies.queries.chain_body.Goals as goal

pub returns : goal.returns
returns c = c.in_ok-bytes.ensures.ok _ (c.write_chain.ensures [] c.in_ok-body.ensures.text)
