mod OneResistance
mod OneShear
mod OneChange
mod OneOutcome
mod OneTranscript
mod TwoBytes
mod Laying
mod Filled
