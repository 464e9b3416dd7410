pub mod DecimalLemmas
pub mod FieldLemmas
pub mod LineLemmas
pub mod HexadecimalLemmas
