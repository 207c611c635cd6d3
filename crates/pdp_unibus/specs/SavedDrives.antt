-- The pages of drives.
use Rattle.std.specs.Prelude.{ℕ, ◌≡◌, List, [], Option, Vec, map}
use Rattle.std.specs.declared.alloc.Global.{Global}
use Rattle.std.specs.declared.rc.Rc.{Rc}
use Rattle.pdp_store.specs.declared.Stamp.{Stamp}
use Rattle.pdp_store.specs.Pages.{SharedPage, stamps_of, words_of}

-- a list of pages, as it is shared
abbrev pub PageList : Type 0
PageList = Rc (Vec SharedPage Global) Global

-- its words, and their last stamps
abbrev pub pages_words : PageList → List ℕ
pages_words pages = words_of pages.value.items

abbrev pub pages_stamps : PageList → List (Option Stamp)
pages_stamps pages = stamps_of pages.value.items

-- these pages of drives have no stamps
abbrev pub AreUnstamped : List PageList → Type 0
AreUnstamped drives = map pages_stamps drives ≡ map (λ _. []) drives
