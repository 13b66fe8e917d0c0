pub mod RoundTrips
pub mod Numbers
pub mod Keeps
