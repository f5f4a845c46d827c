pub mod Under
pub mod Halved
