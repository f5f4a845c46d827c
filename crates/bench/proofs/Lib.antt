mod Lent
mod Owned
mod Replied
mod Turns
