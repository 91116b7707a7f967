-- The calls of the archive over a host's words. `Calls` is what a reader must believe; the rest are laws, and examples that compute.
pub mod Calls
pub mod CallLaws
pub mod Examples
