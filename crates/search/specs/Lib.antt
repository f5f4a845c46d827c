pub mod Queries
pub mod Answers
pub mod Replies
pub mod Asking
pub mod Examples
