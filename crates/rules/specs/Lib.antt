-- How the code of layer 2 goes along; no exported promise speaks of it.
pub mod Flags
pub mod GoodEdits
pub mod NameSearch
pub mod Lanes
pub mod LetterCase
