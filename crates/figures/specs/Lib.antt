pub mod LoadEffects
pub mod Plates
pub mod Girders
pub mod Axes
pub mod Bending
pub mod Shear
pub mod Studs
