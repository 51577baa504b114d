pub mod ChoiceLaws
pub mod StackLaws
