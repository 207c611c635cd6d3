-- What the bus notes of accesses: the last stamps of core and the first touches. No device and no instruction looks at
-- them.
use Rattle.std.proofs.Common.{◌≡◌, List, ◌++◌, Option, ap₂}
use Rattle.pdp_store.specs.FirstTouches.{FirstTouches, first_touches_after}
use Rattle.pdp_store.specs.Stamps.{stamps_after_trace}
use Rattle.pdp_store.specs.TracedAccess.{TracedAccess}
use Rattle.pdp_store.specs.declared.Stamp.{Stamp}
use Rattle.pdp_store.proofs.FirstTouches.{first_touches_after-append}
use Rattle.pdp_store.proofs.Stamps.{stamps_after_trace-append}
use Rattle.pdp_unibus.specs.Handbook.BusWorld.{BusWorld}

pub record AccessNotes : Type 0 where
  pub stamps : List (Option Stamp)
  pub first_touches : FirstTouches

abbrev pub access_notes : List (Option Stamp) → FirstTouches → AccessNotes
access_notes stamps first_touches = record { stamps = stamps; first_touches = first_touches }

-- those of a bus, and a bus with others
abbrev pub notes_of : BusWorld → AccessNotes
notes_of w = access_notes w.stamps w.first_touches

abbrev pub with_notes : BusWorld → AccessNotes → BusWorld
with_notes w notes = record w { stamps = notes.stamps; first_touches = notes.first_touches }

-- what a trace leaves of them
abbrev pub notes_after : List TracedAccess → AccessNotes → AccessNotes
notes_after xs notes = access_notes (stamps_after_trace xs notes.stamps) (first_touches_after xs notes.first_touches)

pub notes_after-append : (xs ys : List TracedAccess) (notes : AccessNotes) → notes_after (xs ++ ys) notes ≡ notes_after ys (notes_after xs notes)
notes_after-append xs ys notes =
    ap₂ access_notes (stamps_after_trace-append xs ys notes.stamps) (first_touches_after-append xs ys notes.first_touches)
