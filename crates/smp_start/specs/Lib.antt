-- when a seat's view may change with no step
pub mod Seats
-- how a sign is shared
pub mod Sign
-- seats that are looked at together
pub mod Crowd
-- seats at a table whose rule says what each step tells
pub mod Told
