-- what a seat is, and what its address owns
pub mod SeatValue
pub mod Seats
pub mod Held
-- the numbers that C gets
pub mod Status
-- what each call of C does
pub mod Places
pub mod Calls
pub mod Works
pub mod Sites
pub mod Stops
pub mod Opens
