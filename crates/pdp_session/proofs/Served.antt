-- What a call of the session's parts does to how far it has come.
use Rattle.std.proofs.Common.{◌≡◌, ℕ, ◌+◌, ◌<◌, Result, Ok, Err, List, [], ◌∷◌, ◌++◌, length, take, drop, get_or, sym, ap, ◌∙◌, append_assoc, append-nil, take-append-drop}
use Rattle.std.proofs.KnownBytes.{Appends-trans}
use Rattle.std.proofs.lemmas.List.{take_more}
use Rattle.pdp_session.specs.Lines.{without_return, lines_of}
use Rattle.pdp_session.specs.Inside.Progress.{Reached, Goes, Breaks, Serves, Moves, Finishes}
use Rattle.pdp_session.specs.Language.{Language, pasts_after, text_to}
use Rattle.pdp_session.specs.Pasts.{Pasts}
use Rattle.pdp_session.specs.Session.{BeginsReplies}
use Rattle.pdp_session.specs.Streams.{DrainData}
use Rattle.pdp_session.proofs.Pieces.{sent_nothing, sent_then}
use Rattle.pdp_session.proofs.Reaching.{line_reached, broken, last_replied}
use Rattle.pdp_session.proofs.Replying.{answers, begins_answers}

-- a text of which a beginning was written
cut_text : (out text taken unwritten : List ℕ) → text ≡ taken ++ unwritten → out ++ text ≡ (out ++ taken) ++ unwritten
cut_text out text taken unwritten split = ap (λ back. out ++ back) split ∙ sym (append_assoc out taken unwritten)

-- the line that an LF ended was served
pub line_moves : {T E : Type 0} (language : Language) (past : Pasts) (done out held : List ℕ) (now after : Pasts) (output output_after : DrainData) (result : Result T E)
    → Reached language past done out held now → Serves language (without_return held) now after output output_after result
    → Moves language past (done ++ 10 ∷ []) out output output_after [] after result
line_moves language past done out held now after output output_after (Ok x) r s = record {
  more = text_to language (without_return held) s.refused now;
  sent = s.sends;
  reached = rw s.after (line_reached language past done out held now s.refused s.only r);
}
line_moves language past done out held now after output output_after (Err e) r s =
    let text = text_to language (without_return held) s.refused now in
    let reached : Reached language past (done ++ 10 ∷ []) ((out ++ s.sends.taken) ++ s.sends.unwritten) [] (pasts_after language (without_return held) s.refused now) =
    rw (← cut_text out text s.sends.taken s.sends.unwritten s.sends.split) (line_reached language past done out held now s.refused s.only r) in
    record {
      more = s.sends.taken;
      writes = s.sends.writes;
      failed = s.sends.failed;
      broken = broken language past (done ++ 10 ∷ []) (out ++ s.sends.taken) s.sends.unwritten [] _ reached;
    }

-- the line that the end of the input left open was served
pub last_finishes : {T E : Type 0} (language : Language) (past : Pasts) (done out held : List ℕ) (now after : Pasts) (output output_after : DrainData) (result : Result T E)
    → 0 < length held → Reached language past done out held now → Serves language held now after output output_after result → Finishes language past done out output output_after result
last_finishes language past done out held now after output output_after (Ok x) some r s = record {
  more = text_to language held s.refused now;
  sent = s.sends;
  answers = answers language past (lines_of done) _ _ (last_replied language past done out held now s.refused s.only some r);
}
last_finishes language past done out held now after output output_after (Err e) some r s =
    let text = text_to language held s.refused now in
    let begins : BeginsReplies language past (lines_of done ++ []) (out ++ s.sends.taken) =
    begins_answers language past (lines_of done) (out ++ s.sends.taken) s.sends.unwritten (pasts_after language held s.refused now) []
    (rw (← cut_text out text s.sends.taken s.sends.unwritten s.sends.split) (last_replied language past done out held now s.refused s.only some r)) in
    record {
      more = s.sends.taken;
      writes = s.sends.writes;
      failed = s.sends.failed;
      begins = rw append-nil at begins;
    }

-- nothing was written
pub nothing_more : (language : Language) (past : Pasts) (done out held : List ℕ) (now : Pasts) (output : DrainData) → Reached language past done out held now
    → Goes language past done out output output held now
nothing_more language past done out held now output r = record {
  more = [];
  sent = sent_nothing output;
  reached = rw (append-nil out) r;
}

-- some bytes, and then some more
pub then_moves : {T E : Type 0} (language : Language) (past : Pasts) (done all out held now_held : List ℕ) (between now : Pasts) (output output_between output_after : DrainData) (result : Result T E)
    → (g : Goes language past done out output output_between held between) → Moves language past all (out ++ g.more) output_between output_after now_held now result
    → Moves language past all out output output_after now_held now result
then_moves language past done all out held now_held between now output output_between output_after (Ok x) g m = record {
  more = g.more ++ m.more;
  sent = sent_then g.more m.more output output_between output_after g.sent m.sent;
  reached = rw (← append_assoc out g.more m.more) m.reached;
}
then_moves language past done all out held now_held between now output output_between output_after (Err e) g m = record {
  more = g.more ++ m.more;
  writes = Appends-trans output.written output_between.written output_after.written g.more m.more g.sent.writes m.writes;
  failed = m.failed;
  broken = rw (← append_assoc out g.more m.more) m.broken;
}

-- the writer failed before the rest was taken
pub breaks_early : (language : Language) (past : Pasts) (done rest out : List ℕ) (output output_after : DrainData) → Breaks language past done out output output_after
    → Breaks language past (done ++ rest) out output output_after
breaks_early language past done rest out output output_after b = record {
  more = b.more;
  writes = b.writes;
  failed = b.failed;
  broken = λ next. rw append_assoc (b.broken (rest ++ next));
}

-- ---- byte by byte

pub one_more_byte : (done bytes : List ℕ) (i : ℕ) → i < length bytes → (done ++ take i bytes) ++ get_or bytes i 0 ∷ [] ≡ done ++ take (i + 1) bytes
one_more_byte done bytes i within =
    append_assoc done (take i bytes) (get_or bytes i 0 ∷ []) ∙ ap (λ back. done ++ back) (sym (take_more bytes i 0 within))

pub all_bytes : (done bytes : List ℕ) (i : ℕ) → i < length bytes → ((done ++ take i bytes) ++ get_or bytes i 0 ∷ []) ++ drop (i + 1) bytes ≡ done ++ bytes
all_bytes done bytes i within =
    ap (λ front. front ++ drop (i + 1) bytes) (one_more_byte done bytes i within) ∙ append_assoc done (take (i + 1) bytes) (drop (i + 1) bytes)
    ∙ ap (λ back. done ++ back) (take-append-drop (i + 1) bytes)
