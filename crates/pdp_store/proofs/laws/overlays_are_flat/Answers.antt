use Rattle.pdp_store.proofs.OverlayLaws.{overlays_are_flat}
use Rattle.pdp_store.proofs.laws.overlays_are_flat.Goals as goal

-- src/laws.rt
pub returns : goal.returns
returns c = λ c e a b stamps size. overlays_are_flat c e a b stamps size
