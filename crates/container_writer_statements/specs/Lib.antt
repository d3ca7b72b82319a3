pub mod Accepted
pub mod Stored
pub mod ReadBack
pub mod Roles
pub mod Contents
pub mod Exactly
