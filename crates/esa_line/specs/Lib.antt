pub mod Front
pub mod Line
pub use Rattle.esa_bytes.specs.Decimal
pub use Rattle.esa_bytes.specs.Lines
