-- Sets of cells, lists of them in lent words, and two things that every crate needs: first appearances kept, and lists given by their elements.
-- `Set` and `Lists` are what a reader must believe; `Parts` holds what functions answer that serve the crates above; the rest are laws.
pub mod Set
pub mod Lists
pub mod Parts
pub mod BitLaws
pub mod SetLaws
pub mod WordLaws
pub mod FirstsLaws
pub mod ArrayLaws
pub mod ListLaws
pub mod OptionLaws
pub mod SearchLaws
pub mod MemberLaws
pub mod Examples
