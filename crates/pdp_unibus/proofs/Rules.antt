-- What attributes cite: lemmas by their subject, and definitions that are opened together, as an
-- `unfolding` of a name opens all that stands on the name's own line.
use Rattle.std.proofs.lemmas.List.{length-map}
use Rattle.pdp_kt11.specs.Handbook.Kt.{kt_fetched}
use Rattle.pdp_unibus.proofs.Directs.{direct_later, direct_touched, fetched_status, written_both}
use Rattle.pdp_unibus.proofs.SavedDrives.{none_loaded, size_at, one_loaded, all_loaded}
use Rattle.pdp_unibus.proofs.SavedDrives.{count_at, count_one, count_past, count_there}
use Rattle.pdp_unibus.proofs.SavedDrives.{none_counted, seen, put_one, same_for_one}
use Rattle.pdp_unibus.proofs.QuietBeginnings.{begun_quietly}
use Rattle.pdp_unibus.specs.Calm.{IsCalm}
use Rattle.pdp_io_page.specs.Handbook.Source.{requests}

-- for goals on the bus after a fetch, after a pair of writes and as a calm turn begins
pub ruleset bus_steps = (fetched_status, written_both, begun_quietly)

-- for goals on a bus whose calm turn begins
pub ruleset begun_calmly = (begun_quietly, direct_later)

-- for goals on drives that are loaded one after the other
pub ruleset drive_loads = (none_loaded, size_at, one_loaded, all_loaded)

-- for goals on a list of drives of which one is changed
pub ruleset changed_drive = (seen, put_one, same_for_one)

-- for goals on who numbers a patched page
pub ruleset numbered_drive = (same_for_one, count_at, count_one)

pub ruleset numbered_pages = (length-map, count_there, count_past, none_counted)

-- opens what a fetch on a calm bus leaves as it was, and what it doesn't
unfoldable pub calm_fetch : Type 0
unfolding requests IsCalm kt_fetched
calm_fetch = Unit {0}
