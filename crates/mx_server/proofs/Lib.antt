mod HandlerLemmas
mod HostingLemmas
mod LossLemmas
mod RequestSending
mod WorkerSending
