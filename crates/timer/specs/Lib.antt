pub mod Timer
pub mod Post
pub mod History
pub mod Upstream
pub mod Determined
