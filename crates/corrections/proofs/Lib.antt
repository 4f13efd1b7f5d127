mod LastNumbers
mod RegisterRows
