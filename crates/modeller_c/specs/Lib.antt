pub mod Calls
pub mod Gathering
pub mod Rooms
pub mod Words
