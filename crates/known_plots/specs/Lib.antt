-- Plots that are computed by the definitions of `tiler` and `single_tiling`. `KnownPlots` has 01's starred plots; `Examples` computes small plots by
-- `tiler`, `CallExamples` has what calls leave in lent words, `CuttingExamples` applies the theorems of cuttings to them, `FigureExamples` those of the
-- figure called cuttings, and `SingleExamples` computes small plots by `single_tiling`.
pub mod KnownPlots
pub mod Examples
pub mod CallExamples
pub mod CuttingExamples
pub mod FigureExamples
pub mod SingleExamples
