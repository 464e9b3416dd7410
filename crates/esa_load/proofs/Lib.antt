mod Fitting
mod Giving
mod Input
