use Rattle.std.proofs.Common.{[]}
use Rattle.mx_requests.proofs.faults.Fault.body.Goals as goal

pub returns : goal.returns
returns c = c.in_ok-bytes.ensures.ok _ (c.write_body.ensures [] c.new-body.ensures.text)
