-- The plot file. `PlotFile` is what a reader must believe; `Records` says what a file is as records; `Inner` serves private contracts only.
-- `Theorems` of proofs/ says which files are accepted, what is read from them and how far a file is looked at.
pub mod PlotFile
pub mod Records
pub mod Inner
