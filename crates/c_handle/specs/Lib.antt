pub mod Owned
pub mod Lending
