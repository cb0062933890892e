pub mod Requests
pub mod Run
