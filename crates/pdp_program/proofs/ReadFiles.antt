-- The files of the drives, one by one.
use Rattle.std.proofs.Common.{◌≡◌, ℕ, zero, suc, ◌<◌, List, [], ◌∷◌, ◌++◌, length, map, get_or, slice_get, inl, inr, Option, Some, option_map, Ok, Err, Vec, Global, refl, sym, ap, ◌∙◌, arith}
use Rattle.std.proofs.lemmas.List.{map-append}
use Rattle.std.proofs.lemmas.Option.{slice_get-map}
use Rattle.clap.specs.Words.{Text}
use Rattle.pdp_session.specs.Image.{image_read}
use Rattle.pdp_program.specs.Media.{AreBytesOf, AreImagesOf, AreMediaOf, EachIsFileOf, IsFileOf, IsImageOf}
use Rattle.pdp_program.specs.declared.command_line.FileNames.{FileNames}
use Rattle.pdp_program.specs.declared.exit.Exit.{Exit}
use Rattle.pdp_program.specs.declared.exit.Exit.TheVariants.{Done, BadArguments, InputOrOutput, NoMemory, BadImage, BadSetup}

-- two lists that agree as they are seen, with one item more each
pub one_more : {A B C D E : Type 0} (f : C → E) (h : A → C) (g : D → E) (k : B → D) (xs : List A) (ys : List B) (x : A) (y : B)
    → map f (map h xs) ≡ map g (map k ys) → f (h x) ≡ g (k y) → map f (map h (xs ++ x ∷ [])) ≡ map g (map k (ys ++ y ∷ []))
one_more f h g k xs ys x y before same =
    ap (map f) (map-append h xs (x ∷ [])) ∙ map-append f (map h xs) (h x ∷ [])
    ∙ rw (before, same) refl
    ∙ sym (ap (map g) (map-append k ys (y ∷ [])) ∙ map-append g (map k ys) (k y ∷ []))

-- the bytes of one file more
pub one_more_file : (known : Text → Option (List ℕ)) (most : ℕ) (names : List (Option Text)) (files : List (List ℕ)) (name : Option Text) (bytes : List ℕ)
    → EachIsFileOf known most names files → IsFileOf known most name (Ok bytes) → EachIsFileOf known most (names ++ name ∷ []) (files ++ bytes ∷ [])
unfolding EachIsFileOf
one_more_file known most [] [] name bytes before file = (file, tt)
one_more_file known most [] (f ∷ fs) name bytes before file = absurd before
one_more_file known most (n ∷ ns) [] name bytes before file = absurd before
one_more_file known most (n ∷ ns) (f ∷ fs) name bytes before file = (before.0, one_more_file known most ns fs name bytes before.1 file)

pub no_files : (known : Text → Option (List ℕ)) (most : ℕ) → EachIsFileOf known most [] []
unfolding EachIsFileOf
no_files known most = tt

get_there : {A : Type 0} (xs : List A) (n : ℕ) (x : A) → n < length xs → x ≡ get_or xs n x → slice_get xs n ≡ Some x
get_there [] n x below same = absurd (omega arith)
get_there (y ∷ ys) zero x below same = ap Some (sym same)
get_there (y ∷ ys) (suc n) x below same = get_there ys n x (omega arith) same

-- an image that isn't whole words
pub bad_image : (images : List (Vec ℕ Global)) (bytes : Vec ℕ Global) (n : ℕ) (exit : Exit) → n < length images → bytes ≡ get_or images n bytes
    → IsImageOf bytes.items (Err exit) → AreImagesOf (map (λ b. b.items) images) (Err exit)
bad_image images bytes n BadImage below same is = (
  n,
  slice_get-map image_read (map (λ b. b.items) images) n
      ∙ ap (λ found. option_map image_read found) (slice_get-map (λ (b : Vec ℕ Global). b.items) images n ∙ ap (λ found. option_map (λ (b : Vec ℕ Global). b.items) found) (get_there images n bytes below same))
      ∙ ap Some is,
)
bad_image images bytes n NoMemory below same is = tt
bad_image images bytes n Done below same is = absurd is
bad_image images bytes n BadArguments below same is = absurd is
bad_image images bytes n InputOrOutput below same is = absurd is
bad_image images bytes n BadSetup below same is = absurd is

-- all files were read, and then core's image is refused
pub core_refused : (known : Text → Option (List ℕ)) (units : ℕ) (names : FileNames) (core : List ℕ) (drives : List (List ℕ)) (tape : List ℕ) (exit : Exit)
    → AreBytesOf known units names core drives tape → IsImageOf core (Err exit) → AreMediaOf known units names (Err exit)
core_refused known units names core drives tape BadImage bytes is = record { core = core; drives = drives; tape = tape; bytes = bytes; is_bad = inl is }
core_refused known units names core drives tape NoMemory bytes is = tt
core_refused known units names core drives tape Done bytes is = absurd is
core_refused known units names core drives tape BadArguments bytes is = absurd is
core_refused known units names core drives tape InputOrOutput bytes is = absurd is
core_refused known units names core drives tape BadSetup bytes is = absurd is

-- or the image of a drive
pub drives_refused : (known : Text → Option (List ℕ)) (units : ℕ) (names : FileNames) (core : List ℕ) (drives : List (List ℕ)) (tape : List ℕ) (exit : Exit)
    → AreBytesOf known units names core drives tape → AreImagesOf drives (Err exit) → AreMediaOf known units names (Err exit)
drives_refused known units names core drives tape BadImage bytes is = record { core = core; drives = drives; tape = tape; bytes = bytes; is_bad = inr is }
drives_refused known units names core drives tape NoMemory bytes is = tt
drives_refused known units names core drives tape Done bytes is = absurd is
drives_refused known units names core drives tape BadArguments bytes is = absurd is
drives_refused known units names core drives tape InputOrOutput bytes is = absurd is
drives_refused known units names core drives tape BadSetup bytes is = absurd is
