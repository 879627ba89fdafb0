pub mod Sem
pub mod Post
pub mod History
pub mod Worked
pub mod Upstream
pub mod Determined
pub mod Border
