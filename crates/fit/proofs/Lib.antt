-- Laws, and examples; `WalkLaws` are those that only the proofs of this crate's code cite.
pub mod WalkLaws
pub mod PieceLaws
pub mod FitForLaws
pub mod LayLaws
pub mod Examples
