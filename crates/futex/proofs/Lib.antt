pub mod Law
pub mod Answers
pub mod Histories
pub mod Example
pub mod Upstream
pub mod Determined
pub mod Forward
