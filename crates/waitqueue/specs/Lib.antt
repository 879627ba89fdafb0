pub mod Threads
pub mod Determined
