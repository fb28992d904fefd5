mod Turns
mod Points
mod Teams
mod Seats
mod ManyTurns
