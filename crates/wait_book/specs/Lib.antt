pub mod Contents
pub mod Stepping
pub mod Queues
pub mod Lists
pub mod Chains
pub mod Linked
pub mod Insides
pub mod Numbers
