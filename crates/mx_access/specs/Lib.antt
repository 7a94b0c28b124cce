pub mod Acl
pub mod Access
pub mod ViewerView
pub mod StateCode
