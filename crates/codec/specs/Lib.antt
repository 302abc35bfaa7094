pub mod Examples
pub mod FirstRecord
pub mod Readable
pub mod Reading
pub mod RoundTrip
pub mod Walking
pub mod Writing
