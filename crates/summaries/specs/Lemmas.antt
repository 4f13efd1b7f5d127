pub mod Ascending
pub mod At
pub mod LastLaw
pub mod OtherLaws
