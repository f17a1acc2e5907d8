-- What the contracts of the programs cite.
pub mod Reading
