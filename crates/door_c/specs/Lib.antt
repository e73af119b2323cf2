pub mod KeeperSlots
pub mod DoorWords
pub mod PlaceWords
pub mod Held
