pub mod ListLaws
pub mod PlantLaws
