-- A graph in lent words. `Graph` is what a reader must believe; `Inner` serves private contracts. Laws and examples stand in proofs/.
pub mod Graph
pub mod Inner
