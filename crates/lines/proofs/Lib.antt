pub mod DiagramLaws
pub mod UniqueLaws
pub mod OrderLaws
pub mod SoundLaws
pub mod WorkLaws
pub mod SampleLaws
