pub mod Laws
pub mod Nears
