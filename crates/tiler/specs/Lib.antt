-- The specification of `tiler`. `Graphs` holds the definitions that the contract of the public function and the theorems cite, `Inner` and `Growths` those
-- of private functions; `Theorems` and `CuttingTheorems` say what the answers of both counts mean. The others hold laws. Plots that are computed stand in
-- the crate `known_plots`.
pub mod Graphs
pub mod Inner
pub mod Growths
pub mod AnswerLaws
pub mod GivenLaws
pub mod FullLaws
pub mod Theorems
pub mod NumberLaws
pub mod CuttingTheorems
