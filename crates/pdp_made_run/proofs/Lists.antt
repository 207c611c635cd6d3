-- Lists of origins, one step after the other.
use Rattle.std.proofs.Common.{List, [], ◌∷◌, ◌++◌, flat_map, map}
use Rattle.pdp_made.specs.Cells.{Data, DataCell, EachSame, Same}
use Rattle.pdp_made_run.specs.Origins.{EachOrigin, Events, Held, OfEvent, Origin, back_through}

module _ (other given : Events) where
  -- a cell is the same after a step, if its origins are the same before
  abbrev pub OriginsTell : (DataCell → List Origin) → Data → Data → Data → Data → Type 0
  OriginsTell made d e u t = (c : DataCell) → EachOrigin other given d e (made c) → Same u t c

  pub front : (d e : Data) (xs ys : List Origin) → EachOrigin other given d e (xs ++ ys) → EachOrigin other given d e xs
  front d e [] ys all = tt
  front d e (x ∷ xs) ys all = (all.0, front d e xs ys all.1)

  pub back : (d e : Data) (xs ys : List Origin) → EachOrigin other given d e (xs ++ ys) → EachOrigin other given d e ys
  back d e [] ys all = all
  back d e (x ∷ xs) ys all = back d e xs ys all.1

  -- the cells that a step leaves, from their origins before it
  pub each_held : (made : DataCell → List Origin) (d e u t : Data) → OriginsTell made d e u t → (cs : List DataCell)
      → EachOrigin other given d e (flat_map made cs) → EachSame u t cs
  each_held made d e u t tells [] all = tt
  each_held made d e u t tells (c ∷ cs) all =
      (tells c (front d e (made c) (flat_map made cs) all), each_held made d e u t tells cs (back d e (made c) (flat_map made cs) all))

  -- the same of origins, among them events
  pub each_origin : (made : DataCell → List Origin) (d e u t : Data) → OriginsTell made d e u t → (xs : List Origin)
      → EachOrigin other given d e (flat_map (back_through made) xs) → EachOrigin other given u t xs
  each_origin made d e u t tells [] all = tt
  each_origin made d e u t tells (Held c ∷ xs) all =
      (tells c (front d e (made c) (flat_map (back_through made) xs) all), each_origin made d e u t tells xs (back d e (made c) (flat_map (back_through made) xs) all))
  each_origin made d e u t tells (OfEvent n k ∷ xs) all = (all.0, each_origin made d e u t tells xs all.1)

  -- two steps
  pub both_steps : (first next : DataCell → List Origin) (d e u t v w : Data) → OriginsTell first d e u t → OriginsTell next u t v w
      → OriginsTell (λ c. flat_map (back_through first) (next c)) d e v w
  both_steps first next d e u t v w tells after c all = after c (each_origin first d e u t tells (next c) all)

  -- cells that were held
  pub each_cell : (d e : Data) (cs : List DataCell) → EachOrigin other given d e (map Held cs) → EachSame d e cs
  each_cell d e [] all = tt
  each_cell d e (c ∷ cs) all = (all.0, each_cell d e cs all.1)
