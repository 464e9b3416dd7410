pub use Rattle.sha2.specs.Hashers
pub use Rattle.sha2.specs.Sha256
pub mod Hmac
pub mod Mac
