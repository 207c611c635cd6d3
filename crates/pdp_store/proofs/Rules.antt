-- What attributes cite: lemmas by their subject.
use Rattle.pdp_store.proofs.PageRuns.{has_room, put_all}

-- for goals on what the pages of a list leave in a run of items, as they are put there one by one
pub ruleset item_runs = (has_room, put_all)
