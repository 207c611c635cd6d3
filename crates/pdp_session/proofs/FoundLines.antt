-- The lines of words that were found, as they are written one after another.
use Rattle.std.proofs.Common.{ℕ, ◌≤◌, List, length}
use Rattle.pdp_replay.specs.declared.ask.find_words.FoundWords.{FoundWords}
use Rattle.pdp_session.specs.Reply.{found_line, line_at, listed_head, search_name, words_found_text}
use Rattle.pdp_session.specs.declared.reply.states.FoundWhere.{FoundWhere}
use Rattle.pdp_session.specs.Streams.{DrainData}
use Rattle.pdp_session.specs.Inside.Sends.{Sent, Cut}
use Rattle.pdp_session.proofs.ListedLines.{AreLinesTo, lines_are_whole, lines_cut_at_head, lines_cut_at_item}

-- what comes before the lines
abbrev pub found_head : FoundWhere → FoundWords → List ℕ
found_head place found = listed_head (search_name place) (length found.numbers) found.more

-- the head and the lines of i words were written
abbrev pub AreFoundTo : FoundWhere → FoundWords → ℕ → DrainData → DrainData → Type 0
AreFoundTo place found i output output_after = AreLinesTo (found_head place found) (found_line place) found.numbers i output output_after

pub found_cut_at_head : (place : FoundWhere) (found : FoundWords) (output output_after : DrainData)
    → Cut (found_head place found) output output_after → Cut (words_found_text place found) output output_after
unfolding words_found_text
found_cut_at_head place found output output_after cut =
    lines_cut_at_head (found_head place found) (found_line place) found.numbers output output_after cut

pub found_cut_at_word : (place : FoundWhere) (found : FoundWords) (i : ℕ) (output between output_after : DrainData)
    → AreFoundTo place found i output between → Cut (line_at (found_line place) found.numbers i) between output_after
    → Cut (words_found_text place found) output output_after
unfolding words_found_text
found_cut_at_word place found i output between output_after before cut =
    lines_cut_at_item (found_head place found) (found_line place) found.numbers i output between output_after before cut

pub found_are_whole : (place : FoundWhere) (found : FoundWords) (i : ℕ) (output output_after : DrainData)
    → length found.numbers ≤ i → AreFoundTo place found i output output_after → Sent (words_found_text place found) output output_after
unfolding words_found_text
found_are_whole place found i output output_after all lines =
    lines_are_whole (found_head place found) (found_line place) found.numbers i output output_after all lines
