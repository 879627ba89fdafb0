pub mod Ring
pub mod Bytes
pub mod Counters
pub mod Post
pub mod History
pub mod Upstream
pub mod Determined
