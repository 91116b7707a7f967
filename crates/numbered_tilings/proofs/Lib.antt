-- What belongs to no one function's proof: laws, and examples.
pub mod CheckLaws
pub mod WalkLoops
pub mod TilingLaws
pub mod Examples
