pub mod Covered
pub mod Objects
pub mod Parts
pub mod Claims
