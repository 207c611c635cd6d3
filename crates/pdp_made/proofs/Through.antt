-- Rows one after the other: if each is sound, all are.
use Rattle.std.proofs.Common.{List, [], ◌∷◌, flat_map, Result, Ok, Err}
use Rattle.pdp_word.specs.declared.codes.Codes.{Codes}
use Rattle.pdp_operand.specs.Phases.Phase.{State, Stop, run, step, and_then}
use Rattle.pdp_made.specs.Cells.{AreAlike, Data, DataCell, EachSame, data_of}
use Rattle.pdp_made.specs.PhaseRows.{BothEndAlike, GoTheSameWay, PhaseRow, PlansTell, CellsTell, TellsEnds, made_next, made_through, of_itself, phases_in}
use Rattle.pdp_made.proofs.Halves.{each_back, each_front}

pub each_of : (first : DataCell → List DataCell) (d e u t : Data) → CellsTell first d e u t → (xs : List DataCell) → EachSame d e (flat_map first xs) → EachSame u t xs
each_of first d e u t tells [] all = tt
each_of first d e u t tells (x ∷ xs) all =
    (tells x (each_front d e (first x) (flat_map first xs) all), each_of first d e u t tells xs (each_back d e (first x) (flat_map first xs) all))

module _ (first rest : DataCell → List DataCell) (d e u t : Data) (tells : CellsTell first d e u t) (saved other : Codes) where
  both : (one end : Result State Stop) → TellsEnds rest rest saved other u t one end
      → TellsEnds (λ c. flat_map first (rest c)) (λ c. flat_map first (rest c)) saved other d e one end
  both (Ok one) (Ok end) after = λ c all. after c (each_of first d e u t tells (rest c) all)
  both (Err stop) (Err end) after = λ c all. after c (each_of first d e u t tells (rest c) all)
  both (Ok one) (Err end) after = tt
  both (Err stop) (Ok end) after = tt

module _ (xs : List PhaseRow) (saved other : Codes)
    (rest : (t v : State) → AreAlike saved other t v → GoTheSameWay xs saved other t v
    → TellsEnds (made_through xs saved t) (made_through xs saved t) saved other (data_of other v) (data_of saved t) (run (phases_in xs saved) t) (run (phases_in xs other) v)) where
  next : (first : DataCell → List DataCell) (d e : Data) (one end : Result State Stop) → TellsEnds first of_itself saved other d e one end
      → BothEndAlike (λ t v. GoTheSameWay xs saved other t v) saved other one end
      → TellsEnds (λ c. made_next (λ t. made_through xs saved t) first one c) (λ c. made_next (λ t. made_through xs saved t) first one c) saved other d e
      (and_then one (λ t. run (phases_in xs saved) t)) (and_then end (λ t. run (phases_in xs other) t))
  next first d e (Err stop) (Err end) tells alike = tells
  next first d e (Ok t) (Err end) tells alike = absurd alike
  next first d e (Err stop) (Ok v) tells alike = absurd alike
  next first d e (Ok t) (Ok v) tells alike =
      both first (made_through xs saved t) d e (data_of other v) (data_of saved t) tells saved other (run (phases_in xs saved) t) (run (phases_in xs other) v) (rest t v alike.0 alike.1)

pub through : PlansTell
unfolding made_through GoTheSameWay run
through [] saved other s u sound alike way = λ c all. all.0
through (x ∷ xs) saved other s u sound alike way =
    next xs saved other (λ t v after on. through xs saved other t v sound.1 after on) (x.made s) (data_of other u) (data_of saved s) (step (x.phase saved) s) (step (x.phase other) u)
    (sound.0.tells saved other s u alike) way

-- How the phases end: alike
module _ (xs : List PhaseRow) (saved other : Codes)
    (rest : (t v : State) → AreAlike saved other t v → GoTheSameWay xs saved other t v
    → BothEndAlike (λ _ _. Unit {0}) saved other (run (phases_in xs saved) t) (run (phases_in xs other) v)) where
  ending : (one end : Result State Stop) → BothEndAlike (λ t v. GoTheSameWay xs saved other t v) saved other one end
      → BothEndAlike (λ _ _. Unit {0}) saved other (and_then one (λ t. run (phases_in xs saved) t)) (and_then end (λ t. run (phases_in xs other) t))
  ending (Err stop) (Err end) alike = alike
  ending (Ok t) (Err end) alike = absurd alike
  ending (Err stop) (Ok v) alike = absurd alike
  ending (Ok t) (Ok v) alike = rest t v alike.0 alike.1

pub ends_alike : (rows : List PhaseRow) (saved other : Codes) (s u : State) → AreAlike saved other s u → GoTheSameWay rows saved other s u
    → BothEndAlike (λ _ _. Unit {0}) saved other (run (phases_in rows saved) s) (run (phases_in rows other) u)
unfolding GoTheSameWay run
ends_alike [] saved other s u alike way = (alike, tt)
ends_alike (x ∷ xs) saved other s u alike way =
    ending xs saved other (λ t v after on. ends_alike xs saved other t v after on) (step (x.phase saved) s) (step (x.phase other) u) way
