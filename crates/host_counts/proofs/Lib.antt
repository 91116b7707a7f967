-- What belongs to no one function's proof.
pub mod ToldLaws
pub mod HostLaws
