pub use Rattle.esa_bytes.specs.Lines
pub mod Encoded
pub use Rattle.esa_line.specs.Line
pub mod Report
pub mod Sealed
pub mod Shaped
