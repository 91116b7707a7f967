-- What belongs to no one function's proof.
pub mod AnswerLaws
