-- The tiling by number. `Tilings` is what a reader must believe; `Inner` serves private contracts. Laws and examples stand in proofs/.
pub mod Tilings
pub mod Inner
