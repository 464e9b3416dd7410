pub mod Version
pub mod Header
pub mod Pieces
pub use Rattle.esa_params.specs.Form
