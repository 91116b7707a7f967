-- `Theorems` says which files are accepted, what is read from them and how far a file is looked at; `StepLaws` and `TilesLaws` are laws that only
-- the proofs of this crate's code cite; the rest are laws, and examples that compute.
pub mod StepLaws
pub mod TilesLaws
pub mod RecordLaws
pub mod ReadLaws
pub mod HoleLaws
pub mod FirstRecordLaws
pub mod FileLaws
pub mod OnceLaws
pub mod HoleRefusalLaws
pub mod LengthLaws
pub mod SettledLaws
pub mod Theorems
pub mod Examples
