-- Path counts, and path counts in lent words. `PathCounts` is what a reader must believe; `Parts` holds what functions answer that serve the crates above; `Inner` serves
-- private contracts and laws; the rest are laws, by which other crates speak of counts in words, and examples.
pub mod PathCounts
pub mod Parts
pub mod Inner
pub mod PathCountLaws
pub mod Examples
