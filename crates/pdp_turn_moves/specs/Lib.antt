-- What is due, by its name in the code.
pub mod Acts
-- What a turn moves, in its beginning and as a whole.
pub mod Beginnings
pub mod TurnOrigins
-- What its act moved, as a list.
pub mod ActMoves
