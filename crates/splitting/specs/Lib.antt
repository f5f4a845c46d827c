pub mod Blame
pub mod Tree
pub mod Worklist
pub mod Steps
pub mod Claims
