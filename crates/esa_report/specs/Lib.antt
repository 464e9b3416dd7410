pub use Rattle.esa_bytes.specs.Field
pub use Rattle.sha2.specs.Sha256
pub mod Item
pub mod Report
pub mod Zero
