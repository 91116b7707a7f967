-- What belongs to no one function's proof: laws, and examples.
pub mod GraphLoops
pub mod RoomLaws
pub mod GraphLaws
pub mod Examples
