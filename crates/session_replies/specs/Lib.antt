-- what a session replies
pub mod Cases
pub mod Asked
pub mod Runs
pub mod Replies
pub mod Summaries
-- what the layers of the crate say to each other
pub mod Room
pub mod Answered
pub mod CaseLaws
pub mod TalkLaws
