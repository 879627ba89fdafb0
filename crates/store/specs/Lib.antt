pub mod Store
pub mod Product
pub mod History
pub mod Determined
