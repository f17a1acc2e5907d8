mod FirstPlace
pub mod Prefix
