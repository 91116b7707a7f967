-- The mathematics of cuttings: exact covers, and why counting child sequences counts them. `Counts` is what a reader must believe, `Setting` is what the
-- theorems are stated over, and `CellSets` a setting of sets of cells; `Inner` is for private functions of the crates above. `Theorems` of
-- proofs/ is what is proved.
pub mod Counts
pub mod Setting
pub mod CellSets
pub mod Inner
