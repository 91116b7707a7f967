-- The calls over words that make plots and tiles. `Calls` is what a reader must believe; the rest are laws.
pub mod Calls
pub mod CallLaws
