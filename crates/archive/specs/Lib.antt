-- The archive file. `Archive` is what a reader must believe; `Records` says what a file is as a list of records, and which record is current, in words;
-- the rest are laws. `Theorems` of proofs/ is the page of what holds of them.
pub mod Archive
pub mod Records
pub mod PlaceLaws
pub mod OutcomeLaws
