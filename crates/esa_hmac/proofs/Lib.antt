pub mod HmacLemmas
