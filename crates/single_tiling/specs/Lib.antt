-- The specification of `single_tiling`. `SingleTiling` holds the definitions that the public contract cites, `Inner` those of private functions;
-- `Theorems` says what the answer means. The others hold laws. Plots that are computed stand in the crate `known_plots`.
pub mod SingleTiling
pub mod Inner
pub mod FirstLaws
pub mod IndexLaws
pub mod TilingLaws
pub mod DescentLaws
pub mod SumLaws
pub mod CountLaws
pub mod CuttingLaws
pub mod Theorems
