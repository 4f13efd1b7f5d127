mod DayLemmas
