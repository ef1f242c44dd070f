pub mod ShapedFile
pub mod ShapedFileLaws
