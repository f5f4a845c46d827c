pub mod Places
pub mod Table
pub mod Guard
pub mod Gates
pub mod Settle
pub mod Claims
