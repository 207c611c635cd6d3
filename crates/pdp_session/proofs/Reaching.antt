-- Each byte moves a session on.
use Rattle.std.proofs.Common.{◌≡◌, ℕ, ◌<◌, ◌≤◌, ◌⊎◌, inl, inr, Bool, true, false, List, [], ◌∷◌, ◌++◌, length, take, refl, sym, ap, ◌∙◌, arith, append_assoc, append-nil}
use Rattle.std.proofs.lemmas.Bool.{cases_lt}
use Rattle.std.proofs.lemmas.List.{take_all, length-take-le}
use Rattle.std.proofs.lemmas.List.Elements.{All-nil, All-push}
use Rattle.pdp_script.specs.declared.faults.Fault.TheVariants.{NoMemory}
use Rattle.pdp_session.specs.Language.{Language, pasts_after, text_to}
use Rattle.pdp_session.specs.Pasts.{Pasts}
use Rattle.pdp_session.specs.Lines.{is_line_feed, without_return, ended_lines, lines_of}
use Rattle.pdp_session.specs.Inside.Progress.{most_held, Replied, Reached}
use Rattle.pdp_session.specs.Reply.{refusal_text}
use Rattle.pdp_session.specs.Version.{version_of}
use Rattle.pdp_session.specs.Session.{RepliesTo, BeginsReplies}
use Rattle.pdp_session.proofs.HeldLines.{tail_heard, returned_heard, held-push}
use Rattle.pdp_session.proofs.LineLists.{ended_lines-feed, ended_lines-open, lines_of-feed, lines_of-open, lines_of-nil}
use Rattle.pdp_session.proofs.Replying.{nothing_replied, next_replied, answers, begins_answers}

pub nothing_reached : (language : Language) (past : Pasts) → Reached language past [] [] [] past
nothing_reached language past = record {
  whole = [];
  tail = [];
  lines = [];
  split = refl;
  is_open = All-nil (λ byte. is_line_feed byte ≡ false);
  kept = refl;
  every = λ next. refl;
  ended = λ next. refl;
  replied = nothing_replied language past;
}

-- a byte that is no LF is held
pub byte_reached : (language : Language) (past : Pasts) (done out held : List ℕ) (now : Pasts) (byte : ℕ) → is_line_feed byte ≡ false → Reached language past done out held now
    → Reached language past (done ++ byte ∷ []) (out ++ []) (take most_held (held ++ byte ∷ [])) now
byte_reached language past done out held now byte goes_on before = record {
  whole = before.whole;
  tail = before.tail ++ byte ∷ [];
  lines = before.lines;
  split = ap (λ front. front ++ byte ∷ []) before.split ∙ append_assoc before.whole before.tail (byte ∷ []);
  is_open = All-push (λ b. is_line_feed b ≡ false) before.tail byte before.is_open goes_on;
  kept = ap (λ front. take most_held (front ++ byte ∷ [])) before.kept ∙ held-push before.tail byte;
  every = before.every;
  ended = before.ended;
  replied = rw (append-nil out) before.replied;
}

-- an LF ends the line that is held
pub line_reached : (language : Language) (past : Pasts) (done out held : List ℕ) (now : Pasts) (flag : Bool) → (flag ≡ true → text_to language (without_return held) flag now ≡ refusal_text NoMemory)
    → Reached language past done out held now
    → Reached language past (done ++ 10 ∷ []) (out ++ text_to language (without_return held) flag now) [] (pasts_after language (without_return held) flag now)
line_reached language past done out held now flag memory before =
    let tail = before.tail in
    let feed : (next : List ℕ) → (before.whole ++ (tail ++ 10 ∷ [])) ++ next ≡ before.whole ++ (tail ++ 10 ∷ next) =
    λ next. append_assoc before.whole (tail ++ 10 ∷ []) next ∙ ap (λ back. before.whole ++ back) (append_assoc tail (10 ∷ []) next) in
    record {
      whole = before.whole ++ (tail ++ 10 ∷ []);
      tail = [];
      lines = before.lines ++ without_return tail ∷ [];
      split = ap (λ front. front ++ 10 ∷ []) before.split ∙ append_assoc before.whole tail (10 ∷ []) ∙ sym (append-nil (before.whole ++ (tail ++ 10 ∷ [])));
      is_open = All-nil (λ byte. is_line_feed byte ≡ false);
      kept = refl;
      every = λ next. ap lines_of (feed next) ∙ before.every (tail ++ 10 ∷ next) ∙ ap (λ back. before.lines ++ back) (lines_of-feed tail next before.is_open)
          ∙ sym (append_assoc before.lines (without_return tail ∷ []) (lines_of next));
      ended = λ next. ap ended_lines (feed next) ∙ before.ended (tail ++ 10 ∷ next) ∙ ap (λ back. before.lines ++ back) (ended_lines-feed tail next before.is_open)
          ∙ sym (append_assoc before.lines (without_return tail ∷ []) (ended_lines next));
      replied = next_replied language past before.lines out now (without_return tail) (without_return held) flag
          (rw before.kept (returned_heard language (version_of now.past) tail)) memory before.replied;
    }

-- the lines of all that was read, whatever comes next
lines_of-done : (language : Language) (past : Pasts) (done out held : List ℕ) (now : Pasts) (next : List ℕ) (r : Reached language past done out held now)
    → lines_of (done ++ next) ≡ r.lines ++ lines_of (r.tail ++ next)
lines_of-done language past done out held now next r =
    ap (λ front. lines_of (front ++ next)) r.split ∙ ap lines_of (append_assoc r.whole r.tail next) ∙ r.every (r.tail ++ next)

-- the writer failed within the last reply
pub broken : (language : Language) (past : Pasts) (done out unwritten held : List ℕ) (now : Pasts) → Reached language past done (out ++ unwritten) held now
    → (next : List ℕ) → BeginsReplies language past (lines_of (done ++ next)) out
broken language past done out unwritten held now r next =
    rw (lines_of-done language past done (out ++ unwritten) held now next r) (begins_answers language past r.lines out unwritten now (lines_of (r.tail ++ next)) r.replied)

-- ---- the end of the input

tail_has : (held tail : List ℕ) → held ≡ take most_held tail → 0 < length held → 0 < length tail
tail_has held [] kept some = absurd (omega (arith, ap length kept))
tail_has held (byte ∷ bytes) kept some = omega arith

tail_none : (held tail : List ℕ) → held ≡ take most_held tail → length held ≡ 0 → tail ≡ []
tail_none held [] kept none = refl
tail_none held (byte ∷ bytes) kept none = by_length (cases_lt most_held (length (byte ∷ bytes)))
  where
    by_length : (most_held < length (byte ∷ bytes)) ⊎ (length (byte ∷ bytes) ≤ most_held) → (byte ∷ bytes) ≡ []
    by_length (inl long) = absurd (omega (arith, ap length kept, length-take-le most_held (byte ∷ bytes) (omega arith)))
    by_length (inr short) = absurd (omega (arith, ap length kept, ap length (take_all most_held (byte ∷ bytes) short)))

-- no line was open
pub all_answered : (language : Language) (past : Pasts) (done out held : List ℕ) (now : Pasts) → length held ≡ 0 → Reached language past done out held now → RepliesTo language past (lines_of done) out
all_answered language past done out held now none r =
    let all : lines_of done ≡ r.lines =
    ap lines_of (sym (append-nil done)) ∙ lines_of-done language past done out held now [] r
    ∙ ap (λ back. r.lines ++ lines_of (back ++ [])) (tail_none held r.tail r.kept none) ∙ ap (λ back. r.lines ++ back) lines_of-nil ∙ append-nil r.lines in
    rw all (answers language past r.lines out now r.replied)

-- the line that was open is answered too
pub last_replied : (language : Language) (past : Pasts) (done out held : List ℕ) (now : Pasts) (flag : Bool) → (flag ≡ true → text_to language held flag now ≡ refusal_text NoMemory)
    → 0 < length held → Reached language past done out held now → Replied language past (lines_of done) (out ++ text_to language held flag now) (pasts_after language held flag now)
last_replied language past done out held now flag memory some r =
    let all : lines_of done ≡ r.lines ++ r.tail ∷ [] =
    ap lines_of (sym (append-nil done)) ∙ lines_of-done language past done out held now [] r
    ∙ ap (λ back. r.lines ++ lines_of back) (append-nil r.tail) ∙ ap (λ back. r.lines ++ back) (lines_of-open r.tail r.is_open (tail_has held r.tail r.kept some)) in
    rw all (next_replied language past r.lines out now r.tail held flag (rw r.kept (tail_heard language (version_of now.past) r.tail)) memory r.replied)

-- the reader failed: the line that was open has no reply
pub ended_answered : (language : Language) (past : Pasts) (done out held : List ℕ) (now : Pasts) → Reached language past done out held now → RepliesTo language past (ended_lines done) out
ended_answered language past done out held now r =
    let all : ended_lines done ≡ r.lines =
    ap ended_lines r.split ∙ r.ended r.tail ∙ ap (λ back. r.lines ++ back) (ended_lines-open r.tail r.is_open) ∙ append-nil r.lines in
    rw all (answers language past r.lines out now r.replied)
