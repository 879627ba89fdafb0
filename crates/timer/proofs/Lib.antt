pub mod Answers
pub mod Histories
pub mod Upstream
pub mod Lemmas
pub mod Example
pub mod Determined
