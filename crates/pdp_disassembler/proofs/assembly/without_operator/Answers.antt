-- A prefix is stripped from a text if it stands there.
use Rattle.std.proofs.Common.{◌≡◌, ◌≢◌, ℕ, List, ◌++◌, MatchOption, subst, ap, ◌∙◌}
use Rattle.std.proofs.lemmas.Bool.Decides.{Decides-eqb}
use Rattle.std.proofs.lemmas.Slice.Eq.{strip_prefix_is}
use Rattle.pdp_disassembler.specs.Text.{operator_text}
use Rattle.pdp_disassembler.proofs.assembly.without_operator.Goals as goal

pub returns : goal.returns
returns c =
    let operator = c.as_bytes.ensures.value ∙ c.operator_of.ensures.value ∙ ap operator_text c.decode.ensures in
    let P : List ℕ → Type 0 = λ prefix. MatchOption c.strip_prefix.result
    ((rest : List ℕ) → c.args.text.now ≢ prefix ++ rest) (λ rest. c.args.text.now ≡ prefix ++ rest.now) in
    subst P operator (strip_prefix_is Decides-eqb c.args.text.now c.as_bytes.result.now c.strip_prefix.result c.strip_prefix.ensures.cases)
