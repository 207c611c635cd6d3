-- What sending a text does to a writer: a proof's own, which no public contract names.
use Rattle.std.specs.Prelude.{◌≡◌, ℕ, true, List, ◌++◌, Result, Ok, Err}
use Rattle.std.specs.Io.KnownBytes.{Appends}
use Rattle.pdp_session.specs.Streams.{DrainData}

-- the writer took all of the text, and no put failed
pub record Sent (text : List ℕ) (output output_after : DrainData) : Type 0 where
  pub writes : Appends output.written output_after.written text
  pub sound : output_after.has_failed ≡ output.has_failed

-- a put failed after the writer took a beginning of the text
pub record Cut (text : List ℕ) (output output_after : DrainData) : Type 0 where
  pub taken : List ℕ
  pub unwritten : List ℕ
  pub split : text ≡ taken ++ unwritten
  pub writes : Appends output.written output_after.written taken
  pub failed : output_after.has_failed ≡ true

-- all of the text, or a beginning of it if a put failed
abbrev pub Sends : {T E : Type 0} → List ℕ → DrainData → DrainData → Result T E → Type 0
Sends text output output_after (Ok x) = Sent text output output_after
Sends text output output_after (Err e) = Cut text output output_after
