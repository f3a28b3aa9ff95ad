-- Worked cases.
pub mod OtherWaves
pub mod Origins
pub mod Hollow
pub mod HollowRun
