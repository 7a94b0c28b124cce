mod BodyLemmas
mod ReplyLemmas
