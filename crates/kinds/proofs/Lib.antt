mod Tables
mod Layers
mod SlabAndBars
