-- Laws that only the proofs of this crate's code cite.
pub mod BuildLaws
pub mod GrowingLaws
pub mod PassingLaws
pub mod FinishLaws
