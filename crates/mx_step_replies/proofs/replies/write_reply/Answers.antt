use Rattle.mx_step_replies.proofs.replies.write_reply.Goals as goal

pub returns-in_ok-made-in-Open : goal.returns-in_ok-made-in-Open
returns-in_ok-made-in-Open c = rw c.in-Open.is (c.in_ok-made-in-Open.ensures c.args.name.now c.in-Open.field-0 c.in-Open.field-1.items)

pub returns-in_ok-made-in-Ask : goal.returns-in_ok-made-in-Ask
returns-in_ok-made-in-Ask c = rw c.in-Ask.is (c.in_ok-made-in-Ask.ensures c.in-Ask.origin)

pub returns-in_ok-made-in-Join : goal.returns-in_ok-made-in-Join
returns-in_ok-made-in-Join c = rw c.in-Join.is (c.in_ok-made-in-Join.ensures c.in-Join.origin c.in-Join.event)
