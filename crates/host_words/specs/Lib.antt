-- What a host's words stand for. `Layout` is what a reader must believe; the rest are laws.
pub mod Layout
pub mod LayoutLaws
pub mod AnswerLaws
