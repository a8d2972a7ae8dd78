-- Laws of the code of layer 2.
pub mod NameSearch
pub mod Spelling
pub mod Storing
pub mod Stages
pub mod Until
pub mod Lanes
pub mod LetterCase
