mod Taking
mod Undoing
