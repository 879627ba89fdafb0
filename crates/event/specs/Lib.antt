pub mod Event
pub mod Post
pub mod History
pub mod Waiting
pub mod Upstream
pub mod Determined
