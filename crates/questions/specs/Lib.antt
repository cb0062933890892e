pub mod Extremes
pub mod Products
pub mod Together
pub mod Plates
pub mod Bending
pub mod Roots
pub mod Shear
pub mod Studs
