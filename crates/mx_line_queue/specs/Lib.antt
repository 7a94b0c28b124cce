pub mod LineQueue
