pub mod Command
pub mod CommandSteps
pub mod Reply
pub mod Ends
pub mod SureEnds
pub mod ListEnds
