pub mod Cutting
pub mod FirstRecord
pub mod Rewriting
pub mod RoundTrip
pub mod Turns
pub mod Verdict
pub mod Walks
