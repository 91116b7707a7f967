-- What belongs to no one function's proof.
pub mod Match
pub mod ListLoops
