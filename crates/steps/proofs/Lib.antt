pub mod Bits
pub mod Started
pub mod Stepped
pub mod Worked
