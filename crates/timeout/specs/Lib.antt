pub mod Timeout
pub mod Post
pub mod History
pub mod Pairs
pub mod Upstream
pub mod Determined
