-- What attributes cite: lemmas by their subject.
use Rattle.pdp_io_page.proofs.RequestLaws.{first_of_all, without_requests_none_is_chosen}

-- for goals on the source that is chosen
pub ruleset choices = (first_of_all, without_requests_none_is_chosen)
