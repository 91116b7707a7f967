-- Laws that only the proofs of this crate's code cite.
pub mod CodeLaws
pub mod CountLaws
pub mod MadeLaws
