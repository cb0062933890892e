mod FloatValues
mod Sixteenths
mod FromSixteenths
mod Meaning
pub mod Laws
