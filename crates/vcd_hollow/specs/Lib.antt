-- The definitions of captures that lack changes.
pub mod OtherWaves
pub mod Origins
pub mod Cuts
pub mod Hollow
pub mod HollowRun
pub mod HollowPart
