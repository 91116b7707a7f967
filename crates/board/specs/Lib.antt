-- Boards as the code has them. `Board` is what a reader must believe; the rest are laws.
pub mod Board
pub mod BoardLaws
pub mod HoleLaws
pub mod Examples
