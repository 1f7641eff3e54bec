pub mod Journals
pub mod Phases
pub mod Apart
pub mod OneMore
