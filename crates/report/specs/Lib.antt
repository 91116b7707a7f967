-- The text that the program prints. `Report` is what a reader must believe, and `Theorems` says what the text means and how long it is; `Inner` serves private
-- contracts only; the rest are laws, and examples that compute.
pub mod Report
pub mod Inner
pub mod TextLaws
pub mod DecimalLaws
pub mod HoldsLaws
pub mod BuiltLaws
pub mod ListedLaws
pub mod MadeLaws
pub mod CountLaws
pub mod PlotLaws
pub mod FullLaws
pub mod FitLaws
pub mod ReportLaws
pub mod Theorems
pub mod Examples
