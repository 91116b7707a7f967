-- Directions. `Direction` is what a reader must believe; the rest are laws.
pub mod Direction
pub mod PositionLaws
pub mod DirectionLaws
