mod Found
mod Shared
