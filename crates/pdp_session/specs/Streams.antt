-- What contracts see of the streams of a session, and when a put has failed [P].
use Rattle.std.specs.Prelude.{ℕ, Bool, true, ◌==◌, ◌&&◌, nat_lt, List, Option, Result, Ok, Err}

-- a feed: the bytes that are still to come, if they are known; how many pulls are left; and whether
-- a pull has failed
pub record FeedData : Type 0 where
  pub unread : Option (List ℕ)
  pub pulls : ℕ
  pub has_failed : Bool

-- a drain: the bytes that were put, if they are known; and whether a put has failed, or took none
-- of some bytes
pub record DrainData : Type 0 where
  pub written : Option (List ℕ)
  pub has_failed : Bool

-- both streams of a session
pub record StreamsData : Type 0 where
  pub input : FeedData
  pub output : DrainData

abbrev pub streams_of : FeedData → DrainData → StreamsData
streams_of input output = record { input = input; output = output }

-- how many pulls a feed over one of std's readers begins with: more than any input has
abbrev pub pulls_at_first : ℕ
pulls_at_first = 1000000000000

-- a failure, or none of some bytes was taken
abbrev pub put_failed : {E : Type 0} → Result ℕ E → ℕ → Bool
put_failed (Ok taken) offered = taken == 0 && nat_lt 0 offered
put_failed (Err failed) offered = true
