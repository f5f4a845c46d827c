mod Held
mod Down
mod Entries
mod Passed
mod Joining
mod Settling
mod Kept
