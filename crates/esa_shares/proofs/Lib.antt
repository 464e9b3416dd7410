pub mod FieldLaws
pub mod PolynomialLaws
pub mod TableLaws
pub mod ColumnLaws
pub mod SecretLaws
pub mod NewtonSteps
pub mod ShareSteps
