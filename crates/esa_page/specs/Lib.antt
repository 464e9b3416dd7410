pub mod Piecewise
pub mod Underway
pub mod Writing
pub use Rattle.esa_outside.specs.Heard
pub use Rattle.esa_outside.specs.Cause
pub use Rattle.esa_outside.specs.Told
pub use Rattle.esa_lists.specs.Files
