-- What edits and steps leave of the pasts that undo and redo lead to.
use Rattle.std.proofs.Common.{◌≡◌, ◌∙◌, List, [], ◌∷◌, ◌++◌, ap, reverse, subst, sym}
use Rattle.std.proofs.lemmas.List.{reverse-append}
use Rattle.pdp_replay.specs.Past.{Past}
use Rattle.pdp_session.specs.History.{LeadBack, TakesBack, pasts_back, pasts_from}
use Rattle.pdp_session.specs.Pasts.{pasts_edited}
use Rattle.pdp_session.specs.declared.history.before.Before.{Before}

reverse_pushed : (xs xs_pushed : List Before) (b : Before) → xs_pushed ≡ xs ++ b ∷ [] → reverse xs_pushed ≡ b ∷ reverse xs
reverse_pushed xs xs_pushed b pushed = ap (λ (l : List Before). reverse l) pushed ∙ reverse-append xs (b ∷ [])

-- what leads back from a past is one more on a side
pub pushed_leads : (b : Before) (old new : Past) (items pushed_items : List Before) → TakesBack b new old → pushed_items ≡ items ++ b ∷ []
    → LeadBack old (reverse items) → LeadBack new (reverse pushed_items)
pushed_leads b old new items pushed_items takes pushed before =
    subst (λ (l : List Before). LeadBack new l) (sym (reverse_pushed items pushed_items b pushed))
    (takes.leads, subst (λ (p : Past). LeadBack p (reverse items)) (sym takes.back) before)

pushed_pasts : (b : Before) (old new : Past) (items pushed_items : List Before) → TakesBack b new old → pushed_items ≡ items ++ b ∷ []
    → pasts_back new (reverse pushed_items) ≡ old ∷ pasts_back old (reverse items)
pushed_pasts b old new items pushed_items takes pushed =
    ap (λ (l : List Before). pasts_back new l) (reverse_pushed items pushed_items b pushed) ∙ ap (λ (p : Past). p ∷ pasts_back p (reverse items)) takes.back

-- an edit was made, of which this was kept
pub edited_leads : (b : Before) (old new : Past) (done pushed_done none : List Before) → TakesBack b new old → pushed_done ≡ done ++ b ∷ [] → none ≡ []
    → LeadBack old (reverse done) → LeadBack new (reverse pushed_done) × LeadBack new (reverse none)
edited_leads b old new done pushed_done none takes pushed is_none before = (pushed_leads b old new done pushed_done takes pushed before, rw is_none tt)

pub edited_pasts : (b : Before) (old new : Past) (done pushed_done undone none : List Before) → TakesBack b new old → pushed_done ≡ done ++ b ∷ [] → none ≡ []
    → pasts_from new pushed_done none ≡ pasts_edited (pasts_from old done undone) new
edited_pasts b old new done pushed_done undone none takes pushed is_none =
    rw is_none (ap (λ (l : List Past). record { past = new; done = l; undone = [] }) (pushed_pasts b old new done pushed_done takes pushed))
