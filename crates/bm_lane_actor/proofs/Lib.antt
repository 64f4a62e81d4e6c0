pub mod Carrying
pub mod Declining
pub mod Serving
pub mod Waiting
pub mod ConnectionStates
pub mod StepLawful
pub mod LaneLawful
