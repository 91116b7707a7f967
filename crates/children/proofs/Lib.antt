-- Laws that only the proofs of code cite.
pub mod PlacingLaws
pub mod AnswerLaws
