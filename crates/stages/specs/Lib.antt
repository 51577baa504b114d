pub mod Stages
pub mod Stacks
pub mod StageLaws
