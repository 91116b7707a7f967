-- `Theorems` says what the figure means; `FromLaws` are laws that only the proofs of this crate's code cite; the rest are laws, and examples that compute.
pub mod FromLaws
pub mod CuttingLaws
pub mod Theorems
pub mod Examples
