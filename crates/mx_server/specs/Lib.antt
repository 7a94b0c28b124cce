pub mod Hosting
pub mod Judging
pub mod Losses
pub mod Moments
pub mod Replies
pub mod Requests
pub mod WorkerViews
