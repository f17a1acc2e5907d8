-- The products by which a list is inverted.
pub mod Products
