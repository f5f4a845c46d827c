pub mod Gates
pub mod Setting
