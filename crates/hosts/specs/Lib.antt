-- What the exported functions mean for a host. `Theorems` is the page to read, `RecordTheorems` that of the archive's functions and `FigureTheorems` that of the
-- figure called cuttings; `Examples` computes small inputs and shows that its conditions can be met, and
-- `WordExamples` has the words and bytes of a host, place by place. The others hold laws.
pub mod ReturnLaws
pub mod RefusedLaws
pub mod ReadBackLaws
pub mod HandedOnLaws
pub mod CuttingLaws
pub mod Theorems
pub mod Examples
pub mod WordExamples
pub mod RecordLaws
pub mod RecordTheorems
pub mod RecordExamples
pub mod FigureLaws
pub mod FigureTheorems
pub mod FigureExamples
