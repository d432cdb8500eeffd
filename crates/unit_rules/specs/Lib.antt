pub mod Known
pub mod Limits
pub mod Memory
pub mod Numeral
pub mod Quotients
pub mod Roots
pub mod Zone
pub mod Divisors
