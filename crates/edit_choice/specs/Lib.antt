pub mod Choices
pub mod ChosenRows
pub mod ChoiceTexts
pub mod ItemLookup
