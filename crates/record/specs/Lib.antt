-- How the code of layer 1 goes along; no exported promise speaks of it.
pub mod Cursor
pub mod Drafts
