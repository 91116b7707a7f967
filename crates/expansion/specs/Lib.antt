-- The specification of `expansion`: a board and tiles together. `Plots` holds definitions, which contracts of this crate and of the crates
-- above cite; `Parts` what its functions answer; `Boards` is the setting by which the laws speak of boards. The laws stand in proofs/.
pub mod Boards
pub mod Plots
pub mod Parts
