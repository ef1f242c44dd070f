pub mod Meeting
pub mod MeetingLaws
pub mod MeetingMeansLaws
