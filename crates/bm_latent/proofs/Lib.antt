mod Examples
pub mod MachineLawful
