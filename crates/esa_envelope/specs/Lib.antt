pub use Rattle.esa_bytes.specs.Field
pub use Rattle.esa_hmac.specs.Hmac
pub use Rattle.rand_chacha.specs.ChaCha
pub mod Envelope
pub mod Keys
pub mod Keystream
pub mod Label
