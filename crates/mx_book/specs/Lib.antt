pub mod Transactions
pub mod TransactionLaws
pub mod Journal
pub mod Written
pub mod View
pub mod Inside
