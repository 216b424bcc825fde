pub mod Skim
