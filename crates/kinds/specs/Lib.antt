pub mod Decks
pub mod DeckLaws
pub mod Shapes
pub mod ShapeLaws
pub mod Eithers
