-- Laws; `LayerLaws`, `RunSteps` and `StartLaws` are those that only the proofs of this crate's code cite.
pub mod LayerLaws
pub mod RunSteps
pub mod StartLaws
pub mod RunLaws
pub mod CountLaws
