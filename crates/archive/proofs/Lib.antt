-- What belongs to no one function's proof. `Theorems` is the page of what holds of archive files; the rest are laws, and examples that compute.
pub mod InputLaws
pub mod OutputLaws
pub mod ReadingLaws
pub mod StepLaws
pub mod BrokenLaws
pub mod ByteLaws
pub mod FileLaws
pub mod CurrentLaws
pub mod AppendLaws
pub mod Theorems
pub mod Examples
