mod Placing
mod Counts
mod Upgrades
mod Recovering
