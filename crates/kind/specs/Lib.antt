pub mod Verdict
pub mod Kind
pub mod Object
pub mod Post
pub mod History
pub mod Determined
pub mod Effect
