mod Values
mod Handles
