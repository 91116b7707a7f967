-- The children of a board. `Children` is what a reader must believe; `Inner` serves private contracts; the rest are laws.
pub mod Children
pub mod Inner
pub mod ChildLaws
pub mod PruneLaws
pub mod WriteLaws
pub mod Examples
