-- The calls over words that give one tiling. `Calls` is what a reader must believe; the rest are laws.
pub mod Calls
pub mod CallLaws
