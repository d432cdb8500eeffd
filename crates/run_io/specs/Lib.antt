pub mod Told
pub mod Fetches
pub mod InHost
pub mod InMemory
pub mod Texts
pub mod Writes
