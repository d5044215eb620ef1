pub mod Courses
pub mod Reading
