pub mod shared
pub mod worked
