-- What attributes cite: lemmas by their subject.
use Rattle.pdp_kt11.proofs.Holding.{aborted_holds, downward_covers, downward_empty, found_holds}
use Rattle.pdp_kt11.proofs.Holding.{homeless_holds, placed_holds, upward_covers}
use Rattle.pdp_kt11.proofs.Keeping.{aborted_keeps, found_is_mapped, homeless_keeps, kept_downward}
use Rattle.pdp_kt11.proofs.Keeping.{kept_nothing, kept_upward, nothing_is_kept, placed_keeps}

-- for goals on what is kept of a page that grows upward
pub ruleset upward_pages = (kept_upward, upward_covers)

-- for goals on what is kept of a page that grows downward
pub ruleset downward_pages = (kept_downward, kept_nothing, downward_covers, downward_empty)

-- for goals on an access by what is kept
pub ruleset found_pages = (found_is_mapped, found_holds)

-- for goals on an access by the registers: in a mode without pages, and in one with pages
pub ruleset homeless_pages = (homeless_keeps, homeless_holds)

pub ruleset placed_pages = (placed_keeps, aborted_keeps, placed_holds, aborted_holds)
