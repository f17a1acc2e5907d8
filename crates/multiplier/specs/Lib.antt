-- What a table of multiples holds.
pub mod Table
