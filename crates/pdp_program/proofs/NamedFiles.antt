-- The options of the command line, and the names that they give.
use Rattle.std.proofs.Common.{◌≡◌, ℕ, ◌+◌, ◌<◌, List, [], ◌∷◌, ◌++◌, length, map, take, get_or, codes, Result, Ok, Err, IfOk, ap, sym, ◌∙◌}
use Rattle.std.proofs.lemmas.List.{get_or-map, length-map, map-append, take_more}
use Rattle.clap.specs.Words.{App, Text, app_of, with_rule}
use Rattle.clap.specs.declared.builder.command.Command.{Command}
use Rattle.pdp_program.specs.CommandLine.{drive_options, option_rule, with_options}

-- a list that is seen as the beginning of another is, with the next item
pub one_more_seen : {A B C : Type 0} (f : A → C) (g : B → C) (xs : List A) (ys : List B) (i : ℕ) (x : A) (d : B) → i < length ys
    → map f xs ≡ take i (map g ys) → f x ≡ g (get_or ys i d) → map f (xs ++ x ∷ []) ≡ take (i + 1) (map g ys)
one_more_seen f g xs ys i x d below before same =
    map-append f xs (x ∷ []) ∙ rw (before, same) (ap (λ last. take i (map g ys) ++ last ∷ []) (sym (get_or-map g ys i d (g d) below)))
    ∙ sym (take_more (map g ys) i (g d) (rw (length-map ys g) below))

abbrev IsWith : Text → App → App → Type 0
IsWith name before after = after ≡ with_rule before (option_rule name)

-- one option after another
pub drives_added : {E : Type 0} (r : Result Command E) (a0 a1 a2 a3 a4 a5 a6 a7 : App)
    → IsWith (codes "disk") a0 a1 → IsWith (codes "disk1") a1 a2 → IsWith (codes "disk2") a2 a3 → IsWith (codes "disk3") a3 a4
    → IsWith (codes "disk4") a4 a5 → IsWith (codes "disk5") a5 a6 → IsWith (codes "disk6") a6 a7
    → IfOk r (λ more. IsWith (codes "disk7") a7 (app_of more)) → IfOk r (λ more. app_of more ≡ with_options drive_options a0)
drives_added (Ok more) a0 a1 a2 a3 a4 a5 a6 a7 e1 e2 e3 e4 e5 e6 e7 e8 = rw (e7, e6, e5, e4, e3, e2, e1) at e8
drives_added (Err e) a0 a1 a2 a3 a4 a5 a6 a7 e1 e2 e3 e4 e5 e6 e7 e8 = tt
