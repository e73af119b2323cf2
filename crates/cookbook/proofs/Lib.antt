pub mod Traces
pub mod Barriers
pub mod Mailboxes
pub mod Meetings
pub mod Tables
pub mod WorkQueues
