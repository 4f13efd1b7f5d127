mod DayLemmas
mod DigitLemmas
mod Fronts
mod LineLemmas
mod ListingLemmas
mod PortLemmas
mod TableLemmas
mod WordLemmas
