-- Boards by their numbers. `Board` is what a reader must believe; `Parts` holds what functions answer that serve the crates above. The laws stand in
-- proofs/.
pub mod Board
pub mod Parts
