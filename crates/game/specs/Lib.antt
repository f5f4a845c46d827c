pub mod Prefix
pub mod Game
pub mod Strategy
pub mod Run
pub mod Claims
