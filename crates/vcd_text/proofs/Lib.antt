pub mod part
pub mod shared
pub mod read_back
pub mod worked
