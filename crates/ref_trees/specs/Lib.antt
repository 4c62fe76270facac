pub mod Entered
pub mod Gathered
pub mod GatherSteps
pub mod Forest
pub mod ForestSteps
pub mod Steps
