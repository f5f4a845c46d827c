pub mod Digits
pub mod Lowest
pub mod Cases
pub mod Kept
pub mod Groups
pub mod Inputs
