mod AsBox
mod FieldTexts
mod InsideSteps
mod ManyTurns
mod PacketRows
mod Served
mod Values
