pub mod Blocks
pub mod Formula
pub mod Rules
pub mod Judging
pub mod Questions
pub mod Loading
