-- Laws, and examples; `StepLaws` are laws that only the proofs of this crate's code cite.
pub mod StepLaws
pub mod BoardLaws
pub mod FreeLaws
pub mod PlaceLaws
pub mod SizeLaws
pub mod Examples
