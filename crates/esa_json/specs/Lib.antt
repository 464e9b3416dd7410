pub use Rattle.serde_json.specs.Data
pub use Rattle.serde_json.specs.Find
pub use Rattle.serde_json.specs.View
pub mod Object
pub mod Values
