pub mod Asked
pub mod Lost
