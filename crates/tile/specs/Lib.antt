-- One tile. `Path` is what a reader must believe; `Inner` serves private contracts only; the rest are laws.
pub mod Path
pub mod Inner
pub mod PathLaws
pub mod StoredLaws
pub mod EdgeTest
pub mod Examples
