pub mod Lines
pub mod Scanning
pub mod Written
pub mod Contents
pub mod RefusedCauses
pub mod RefusedLines
pub mod Malformed
