pub mod Texts
pub mod Timetables
pub mod Replies
