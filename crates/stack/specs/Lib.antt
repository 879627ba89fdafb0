pub mod Answer
pub mod Stack
pub mod Post
pub mod History
pub mod HandOver
pub mod Upstream
pub mod Determined
