pub use Rattle.hex.specs.Hex
pub mod Decimal
pub mod Field
pub mod Hexadecimal
pub mod Lines
