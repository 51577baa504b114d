pub mod Verbs
pub mod Commands
pub mod Complaints
pub mod Replies
