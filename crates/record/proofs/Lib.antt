-- Laws of the code of layer 1.
pub mod Copied
pub mod Cursor
