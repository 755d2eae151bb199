mod Curved
mod Places
mod Booked
