-- The session language [P]: the lines of a text, what a line means, what it does to the past, and
-- what it is answered.
pub mod Lines
pub mod Version
pub mod Grammar
pub mod Edit
pub mod Command
pub mod Reply
pub mod PastShown
pub mod Transfers
pub mod Accesses
pub mod MoveLines
-- The languages: the session language, and the search language, which has searches beside it, and
-- whose edits can be taken back.
pub mod Search
pub mod Pasts
pub mod History
pub mod Language
-- The words of an image.
pub mod Image
-- A session: from the bytes of its input to the bytes of its output.
pub mod Streams
pub mod Session
-- A proof's own: no public contract names this.
pub mod Inside
