pub mod Arrangement
pub mod Arranging
pub mod RoomEvents
pub mod Collecting
pub mod ExportedEvents
pub mod RoomLogs
