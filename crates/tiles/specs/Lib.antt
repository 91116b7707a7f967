-- Tiles together. `Paths` is what a reader must believe; `Inner` serves private contracts only; the rest are laws.
pub mod Paths
pub mod Inner
pub mod OrbitLaws
pub mod ReadLaws
pub mod StoredLaws
pub mod EqualLaws
pub mod Examples
