-- Laws that only the proofs of this crate's code cite.
pub mod ShapeLaws
pub mod MadeLaws
pub mod WithoutLaws
pub mod SoundLaws
