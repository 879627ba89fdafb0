pub mod Mutex
pub mod Answer
pub mod Post
pub mod Parts
pub mod History
pub mod Upstream
pub mod Determined
pub mod Border
