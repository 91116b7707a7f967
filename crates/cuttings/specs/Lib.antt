-- The specification of `cuttings`. `Cuttings` holds the definitions that the contracts of `count_cuttings_from_layers` and of `tiler::count_cuttings` cite, `FullLaws` laws.
-- `Theorems` of proofs/ says what the figure means.
pub mod Cuttings
pub mod FullLaws
