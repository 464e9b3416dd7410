mod Acting
pub mod Chunking
mod Counting
mod Dealing
pub mod Doing
mod Exchanging
pub mod Failing
pub mod Faulting
mod Fitting
pub mod Giving
mod Holding
mod Keeping
pub mod Lasting
mod Latest
mod Making
mod Opening
pub mod Queueing
pub mod Resting
mod Rounding
mod Sealing
mod Spreading
mod Stopping
pub mod Storing
pub mod Trailing
pub mod Turning
pub mod Writing
