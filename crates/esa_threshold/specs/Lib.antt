pub mod Refusal
pub mod Forward
pub use Rattle.esa_header.specs.Header
pub use Rattle.esa_header.specs.Version
pub use Rattle.esa_header.specs.Pieces
pub use Rattle.esa_params.specs.Form
