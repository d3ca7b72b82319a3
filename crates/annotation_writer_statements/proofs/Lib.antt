pub mod Cases
pub mod Told
pub mod BytesLaws
pub mod AgainLaws
pub mod ReadBack
pub mod RoundTrip
pub mod Least
pub mod Exactly
