pub mod Cores
pub mod Examples
pub mod Marks
pub mod Shown
