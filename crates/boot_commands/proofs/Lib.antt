mod Transfers
mod Inputs
mod Running
