pub mod BlockSteps
pub mod ChainSteps
pub mod CheckedLaws
pub mod PoolLaws
pub mod SeenLaws
pub mod StepLaws
