-- What a run can start from.
use Rattle.std.proofs.Common.{◌≡◌, ◌≤◌, ◌∙◌, ◌&&◌, ap, sym, ℕ, List, [], ◌∷◌, length, nat_le, Bool, true, false, Result, Ok, Err, refl, arith, if◌then◌else◌}
use Rattle.std.specs.List.{All, list_all}
use Rattle.std.specs.Global.{Vec}
use Rattle.std.proofs.lemmas.Bool.{le-leb, leb-true}
use Rattle.std.proofs.lemmas.List.{length-map}
use Rattle.std.proofs.lemmas.List.Folds.{list_all-map}
use Rattle.std.proofs.lemmas.Grind.{common_steps}
use Rattle.std.proofs.lemmas.List.Elements.{All-cons, All-nil}
use Rattle.pdp_script.specs.Refusal.{result_map}
use Rattle.pdp_script.specs.declared.faults.Fault.{Fault}
use Rattle.pdp_script.specs.declared.faults.Fault.TheVariants.{BadImage, BadSetup}
use Rattle.pdp_replay.specs.Past.Setup.{SetupData, setup_checked, IsGood, drive_words, fits_drive, has_good_disks, images_of, most_drives, has_good_numbers, has_good_images}
use Rattle.pdp_replay.proofs.run.Lowered.{both_true}

abbrev accepted : Result (Unit {0}) Fault
accepted = Ok tt

abbrev checked : Result SetupData Fault → Result (Unit {0}) Fault
checked = result_map (λ _. tt)

-- images that are not too many are good if each fits
pub few_good : (images : List (Vec ℕ)) → length images ≤ most_drives
    → list_all (λ (image : Vec ℕ). fits_drive image.items) images ≡ has_good_disks (images_of images)
few_good images few =
    let short : nat_le (length (images_of images)) most_drives ≡ true = le-leb (length (images_of images)) most_drives (rw length-map few) in
    sym (ap (λ few. few && list_all fits_drive (images_of images)) short ∙ list_all-map fits_drive (λ (image : Vec ℕ). image.items) images)

-- images that are tested fit
images_fit : (disks : List (List ℕ)) → list_all (λ image. nat_le (length image) drive_words) disks ≡ true
    → All (λ image. length image ≤ drive_words) disks
images_fit [] fit = All-nil (λ image. length image ≤ drive_words)
images_fit (image ∷ disks) fit =
    let both = both_true (nat_le (length image) drive_words) (list_all (λ image. nat_le (length image) drive_words) disks) fit in
    All-cons (λ image. length image ≤ drive_words) image disks (leb-true (length image) drive_words both.0) (images_fit disks both.1)

good_by : (s : SetupData) (numbers images : Bool) → has_good_numbers s ≡ numbers → has_good_images s ≡ images
    → accepted ≡ checked (if numbers then if images then Ok s else Err BadImage else Err BadSetup) → IsGood s
good_by s true true numbers images is = record {
  units = grind (arith, common_steps);
  some = grind (arith, common_steps);
  widest = grind (arith, common_steps);
  core = grind (arith, common_steps);
  disks = images_fit s.disks (grind (arith, common_steps));
}
good_by s true false numbers images is = absurd cc
good_by s false images_are numbers images is = absurd cc

pub good_is : (s : SetupData) → accepted ≡ checked (setup_checked s) → IsGood s
unfolding setup_checked
good_is s is = good_by s (has_good_numbers s) (has_good_images s) refl refl is
