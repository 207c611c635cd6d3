use Rattle.std.proofs.Common.{◌≡◌, [], ◌∷◌, map, option_map, string_bytes, refl, sym, ◌∙◌, rules}
use Rattle.std.proofs.lemmas.Iterator.Adapters.{YieldsList-from_vec}
use Rattle.std.proofs.lemmas.Iterator.Consumers.{YieldsList-end}
use Rattle.std.proofs.lemmas.List.{map-append, map-id}
use Rattle.pdp_program.specs.Media.{most_of_disk}
use Rattle.pdp_program.proofs.ReadFiles.{no_files, one_more_file}
use Rattle.pdp_program.proofs.media.read_drives.Goals as goal

pub loop-name-init : goal.loop-name-init
loop-name-init g c = (rw c.new-drives.ensures.items (no_files (g.F.Files.contents c.args.files.now) most_of_disk), refl)

pub loop-name-preserved : goal.loop-name-preserved
loop-name-preserved g c =
    let read = c.in_ok-read_file.ensures in
    let known = g.F.Files.contents c.args.files.now in
    let names = map (λ name. option_map string_bytes name) c.loop-name.yielded in (
      rw (c.in_ok-push.ensures.items, map-append (λ name. option_map string_bytes name) c.loop-name.yielded (c.in-Some.name ∷ []), map-append (λ bytes. bytes.items) c.loop-name.drives.items (c.in_ok-read_file.field-0 ∷ []))
          (one_more_file known most_of_disk names (map (λ bytes. bytes.items) c.loop-name.drives.items) (option_map string_bytes c.in-Some.name) c.in_ok-read_file.field-0.items
          c.loop-name.invariant.0 (rw c.loop-name.invariant.1 at read.file)),
      read.same ∙ c.loop-name.invariant.1,
    )

pub returns-in_err-read_file-clause-same : goal.returns-in_err-read_file-clause-same
returns-in_err-read_file-clause-same g c = c.read_file.ensures.same ∙ c.loop-name.invariant.1

pub returns-in_err-push-clause-same : goal.returns-in_err-push-clause-same
returns-in_err-push-clause-same g c = c.read_file.ensures.same ∙ c.loop-name.invariant.1

pub returns-clause-read : goal.returns-clause-read
returns-clause-read g c =
    let road = YieldsList-from_vec {s = c.into_iter-name-iterator.result} c.args.names.items c.into_iter-name-iterator.ensures.into_iter_gives.0 (search rules) in
    let end = YieldsList-end road c.loop-name.yielded c.loop-name.name-iterator c.loop-name.yielded_by c.next.result c.next.new.self c.in-None.is c.next.ensures.steps in
    let all : c.args.names.items ≡ c.loop-name.yielded = sym (sym (map-id c.loop-name.yielded) ∙ end.0) in
    rw all c.loop-name.invariant.0

pub returns-clause-same : goal.returns-clause-same
returns-clause-same g c = c.loop-name.invariant.1
