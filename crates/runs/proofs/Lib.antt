pub mod Changing
pub mod Replies
