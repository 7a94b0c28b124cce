pub use Rattle.mx_requests.specs.Calls
pub use Rattle.mx_requests.specs.CallsShown
pub use Rattle.mx_requests.specs.ReplyBodies
pub use Rattle.mx_requests.specs.RepliesShown
pub use Rattle.mx_requests.specs.Requests
pub mod CallShards
pub mod Responses
