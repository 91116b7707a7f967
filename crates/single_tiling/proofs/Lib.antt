-- What belongs to no one function's proof.
pub mod JudgeLaws
pub mod SumSteps
pub mod PlaceLaws
pub mod WalkSteps
pub mod SearchLaws
