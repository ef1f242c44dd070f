pub mod DrawnLines
pub mod DrawnLineLaws
