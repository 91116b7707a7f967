-- The calls over words that count. `Calls` is what a reader must believe.
pub mod Calls
