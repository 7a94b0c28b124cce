use Rattle.mx_admin.proofs.replies.reply_bytes.Goals as goal

pub returns : goal.returns
returns c = rw c.as_str-body.ensures.value at c.format.ensures.ok
