mod Below
mod NextTold
mod Guards
