pub mod Condvar
pub mod Answer
pub mod Post
pub mod History
pub mod Upstream
pub mod Determined
