-- What a session writes: from the bytes of its input to the bytes of its output [P].
use Rattle.std.specs.Prelude.{◌≡◌, ℕ, ◌+◌, ◌≤◌, Bool, true, false, List, [], ◌∷◌, ◌++◌, length}
use Rattle.std.specs.Prelude.{Option, Some, Result, Ok, Err, ◌⊎◌}
use Rattle.std.specs.List.{concat, slice_get}
use Rattle.std.specs.Io.KnownBytes.{Appends, Consumes, IsAtEnd}
use Rattle.pdp_script.specs.declared.faults.Fault.{Fault}
use Rattle.pdp_script.specs.declared.faults.Fault.TheVariants.{NoMemory, Input, Output, BadImage}
use Rattle.pdp_script.specs.declared.faults.Fault.TheVariants.{BadSetup}
use Rattle.pdp_replay.specs.Past.{Past}
use Rattle.pdp_session.specs.Language.{Language, pasts_after, text_to}
use Rattle.pdp_session.specs.Lines.{ended_lines, lines_of}
use Rattle.pdp_session.specs.Pasts.{Pasts, pasts_begun}
use Rattle.pdp_session.specs.Reply.{refusal_text}
use Rattle.pdp_session.specs.Streams.{StreamsData}

-- the faults of a start: told before anything is read or written, or not at all
abbrev pub is_told_first : Fault → Bool
is_told_first NoMemory = true
is_told_first BadImage = true
is_told_first BadSetup = true
is_told_first _ = false

-- The replies to lines of a language, one text for each, if the first has number n and `refused` is
-- the set of the numbers of those lines that are refused as out of memory. Such a line leaves the
-- session.
unfoldable pub replies : Language → ℕ → List (List ℕ) → (ℕ → Bool) → Pasts → List (List ℕ)
replies language n [] refused past = []
replies language n (line ∷ lines) refused past =
    text_to language line (refused n) past
    ∷ replies language (n + 1) lines refused (pasts_after language line (refused n) past)

-- the set has those lines alone that are answered `refused 1 NoMemory`
abbrev pub OnlyForMemory : (ℕ → Bool) → List (List ℕ) → Type 0
OnlyForMemory refused texts = (n : ℕ) → refused n ≡ true → slice_get texts n ≡ Some
    (refusal_text NoMemory)

-- `out` is the replies to these lines
pub record RepliesTo (language : Language) (past : Pasts) (lines : List (List ℕ))
    (out : List ℕ) : Type 0 where
  pub refused : ℕ → Bool
  pub only : OnlyForMemory refused (replies language 0 lines refused past)
  pub text : concat (replies language 0 lines refused past) ≡ out

-- `out` is a beginning of the replies to these lines
pub record BeginsReplies (language : Language) (past : Pasts) (lines : List (List ℕ))
    (out : List ℕ) : Type 0 where
  pub refused : ℕ → Bool
  pub only : OnlyForMemory refused (replies language 0 lines refused past)
  pub unwritten : List ℕ
  pub text : concat (replies language 0 lines refused past) ≡ out ++ unwritten

-- The writer failed after `out`: within the replies to lines that had ended, and so to each input
-- that begins with `read`; or, once the reader was at its end, within the replies to all lines of
-- `read`.
abbrev pub OutputBreaks : Language → Pasts → List ℕ → List ℕ → Option (List ℕ) → Type 0
OutputBreaks language past read out rest =
    ((next : List ℕ) → BeginsReplies language past (lines_of (read ++ next)) out)
    ⊎ (IsAtEnd rest × BeginsReplies language past (lines_of read) out)

-- How a session that begins with this past ends that has read `read` and written `out`, with `rest`
-- left to read if that is known: after all its input; or if the reader failed, after all lines that
-- had ended; or because the writer failed; or before it began, because it was out of memory.
abbrev pub SessionEnds : Language → Pasts → List ℕ → List ℕ → Option (List ℕ)
    → Result (Unit {0}) Fault → Type 0
SessionEnds language past read out rest (Ok x) =
    IsAtEnd rest × RepliesTo language past (lines_of read) out
SessionEnds language past read out rest (Err Input) = RepliesTo language past (ended_lines read) out
SessionEnds language past read out rest (Err Output) = OutputBreaks language past read out rest
SessionEnds language past read out rest (Err NoMemory) = (read ≡ []) × (out ≡ [])
SessionEnds language past read out rest (Err _) = ⊥

-- a setup that is refused is told as such, with nothing read and nothing written
abbrev pub Ends : Language → Result Past Fault → List ℕ → List ℕ → Option (List ℕ)
    → Result (Unit {0}) Fault → Type 0
Ends language (Ok past) read out rest result =
    SessionEnds language (pasts_begun past) read out rest result
Ends language (Err fault) read out rest result = (result ≡ Err fault) × (read ≡ []) × (out ≡ [])

-- The most pulls that a session has made which ends so and has read so many bytes: each brought a
-- byte at least, but for the one that found the end of the input.
abbrev pub most_pulls : Result (Unit {0}) Fault → ℕ → ℕ
most_pulls (Ok x) count = count + 1
most_pulls (Err Output) count = count + 1
most_pulls (Err _) count = count

-- A session in a language over what a setup makes, from its streams before it to its streams after
-- it: it took some bytes from its reader, by at most so many pulls, and its writer took some bytes.
pub record Session (language : Language) (due : Result Past Fault)
    (before after : StreamsData) (result : Result (Unit {0}) Fault) : Type 0 where
  pub read : List ℕ
  pub out : List ℕ
  pub takes : Consumes before.input.unread after.input.unread read
  pub writes : Appends before.output.written after.output.written out
  pub pulled : before.input.pulls ≤ after.input.pulls + most_pulls result (length read)
  pub ends : Ends language due read out after.input.unread result
