use Rattle.std.proofs.Common.{◌<◌, Bor, Option, None, length, option_map, string_bytes, rules}
use Rattle.clap.specs.Words.{Text}
use Rattle.pdp_program.proofs.NamedFiles.{one_more_seen}
use Rattle.pdp_program.proofs.command_line.owned_names.Goals as goal

pub loop-name-preserved : goal.loop-name-preserved
loop-name-preserved c =
    let below : c.loop-name.name-index < length c.args.names = search rules in
    rw c.in_ok-push.ensures.items
    (one_more_seen (λ name. option_map string_bytes name) (λ (name : Option (Bor Text)). option_map (λ text. text.now) name)
    c.loop-name.owned.items c.args.names c.loop-name.name-index c.in_ok-owned_name.field-0 None below c.loop-name.invariant c.in_ok-owned_name.ensures)
