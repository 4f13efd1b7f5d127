mod DayLemmas
mod EndLemmas
mod GroupLemmas
mod TextLemmas
