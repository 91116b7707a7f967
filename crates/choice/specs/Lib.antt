-- Neighbour counts and the chosen cell. `Choice` is what a reader must believe; `Parts` holds what functions answer that serve the crates above; `Inner` serves private contracts; the rest are laws.
pub mod Choice
pub mod Parts
pub mod Inner
pub mod CountLaws
pub mod ChosenLaws
pub mod Examples
