-- Laws; `PlotLaws` are those that only the proofs of this crate's code cite.
pub mod PlotLaws
pub mod SettingLaws
pub mod CuttingLaws
pub mod AcceptedLaws
pub mod ExpansionLaws
