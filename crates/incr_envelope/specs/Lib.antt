pub mod Touched
pub mod Zones
pub mod Runs
pub mod Envelope
pub mod Kept
