pub mod DigitLemmas
pub mod FieldLemmas
pub mod FollowLemmas
pub mod HeadLaws
pub mod HeadLemmas
pub mod OpenHeads
pub mod RoomLemmas
pub mod WholeHeads
