pub mod Model
pub mod Turning
