-- What the contracts of the program cite.
pub mod Printed
