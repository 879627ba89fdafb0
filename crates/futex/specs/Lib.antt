pub mod Futex
pub mod Post
pub mod Decision
pub mod History
pub mod Upstream
pub mod Determined
