pub mod CheckErrors
pub mod Failures
pub mod Lines
pub mod LineKinds
