pub mod Memory
pub mod Answers
pub mod Forward
pub mod Picks
pub mod Lines
pub mod Histories
pub mod Determined
pub mod Refusals
