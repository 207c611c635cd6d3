-- First touches: for each page of 256 words, the first turn with an access to one of its words.
use Rattle.std.specs.Prelude.{ℕ, ◌/◌, ◌==◌, Option, Some, None, List, [], ◌∷◌, map, min, nat_lt}
use Rattle.std.specs.Prelude.{slice_index_or, slice_set, if◌then◌else◌}
use Rattle.pdp_store.specs.TracedAccess.{TracedAccess}
use Rattle.pdp_store.specs.declared.part.Part.{Part}
use Rattle.pdp_store.specs.declared.part.Part.TheVariants.{Core, Drive}

-- the first touch of a page that was not touched: every turn has a smaller number
abbrev pub never : ℕ
never = 4294967295

-- the turn of a first touch; none if the page was not touched
abbrev pub first_turn : ℕ → Option ℕ
first_turn first = if first == never then None else Some first

-- an access to this page in this turn: the page keeps the earlier of the turn and its first touch
abbrev pub touch_page : List ℕ → ℕ → ℕ → List ℕ
touch_page first_touches page turn =
    slice_set first_touches page (min (slice_index_or first_touches page never) turn)

-- a first touch if it is before this turn; one of this turn or a later turn is dropped
abbrev pub first_before : ℕ → ℕ → ℕ
first_before turn first = if nat_lt first turn then first else never

-- the same for each page
abbrev pub first_touches_before : ℕ → List ℕ → List ℕ
first_touches_before turn first_touches = map (first_before turn) first_touches

-- the first touches of the pages of core and of each drive
pub record FirstTouches : Type 0 where
  pub core : List ℕ
  pub drives : List (List ℕ)

abbrev pub first_touches_of : List ℕ → List (List ℕ) → FirstTouches
first_touches_of core drives = record { core = core; drives = drives }

-- the first touches of a machine that keeps none
abbrev pub no_first_touches : FirstTouches
no_first_touches = record { core = []; drives = [] }

-- the first touches of the pages of a part: none of a drive that is not there
abbrev pub first_touches_in : Part → FirstTouches → List ℕ
first_touches_in Core f = f.core
first_touches_in (Drive number) f = slice_index_or f.drives number []

-- core and every drive with the first touches before this turn alone
abbrev pub all_first_touches_before : ℕ → FirstTouches → FirstTouches
all_first_touches_before turn f = record {
  core = first_touches_before turn f.core;
  drives = map (first_touches_before turn) f.drives;
}

-- an access to this word of this part in this turn
abbrev pub word_touched : Part → ℕ → ℕ → FirstTouches → FirstTouches
word_touched Core word turn f = record f { core = touch_page f.core (word / 256) turn }
word_touched (Drive number) word turn f = record f {
  drives = slice_set f.drives number
      (touch_page (first_touches_in (Drive number) f) (word / 256) turn);
}

-- the accesses of a trace, one after the other
unfoldable pub first_touches_after : List TracedAccess → FirstTouches → FirstTouches
first_touches_after [] f = f
first_touches_after (x ∷ xs) f = first_touches_after xs (word_touched x.part x.word x.turn f)
