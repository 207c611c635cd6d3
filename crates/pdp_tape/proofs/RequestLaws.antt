-- A request of the reader that was served stays away, over any list of changes.
use Rattle.std.proofs.Common.{◌≡◌, true, false, List, [], ◌∷◌, refl, rules}
use Rattle.pdp_tape.specs.Laws.{Pc11Use, ReaderHoldsThroughout, NeverGoesWithError, ServedReaderRequestsStayAway, pc11_after_use, pc11_after_uses, is_go_with_error}
use Rattle.pdp_tape.specs.Pc11.{reader_served}
use Rattle.pdp_tape.specs.Reader.{reader_wants_interrupt}
use Rattle.pdp_tape.specs.declared.pc11.Pc11.{Pc11}

-- a condition that held before makes no request
one_change : (c : Pc11Use) (p : Pc11) → is_go_with_error c p ≡ false → reader_wants_interrupt p.reader ≡ true
    → p.reader.request ≡ false → (pc11_after_use c p).reader.request ≡ false
one_change c p no_error held none = search rules

stays_away : (cs : List Pc11Use) (p : Pc11) → p.reader.request ≡ false → ReaderHoldsThroughout cs p → NeverGoesWithError cs p
    → (pc11_after_uses cs p).reader.request ≡ false
stays_away [] p none holds never = none
stays_away (c ∷ cs) p none holds never =
    stays_away cs (pc11_after_use c p) (one_change c p never.0 holds.0 none) holds.1 never.1

pub served_stay_away : ServedReaderRequestsStayAway
served_stay_away p cs holds never = stays_away cs (reader_served p) refl holds never
