pub mod FedLaws
pub mod HeldLaws
pub mod ImportLaws
pub mod Orders
