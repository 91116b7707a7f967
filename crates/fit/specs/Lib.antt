-- Pieces and the fit. `Fit` is what a reader must believe; `Parts` holds what functions answer that serve the crates above; `Inner` serves private contracts; `FitLaws` are laws, and the others stand in proofs/.
pub mod Fit
pub mod Parts
pub mod Inner
pub mod FitLaws
