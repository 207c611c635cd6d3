use Rattle.std.proofs.Common.{◌≡◌, map, take, option_map, string_bytes}
use Rattle.pdp_program.proofs.command_line.owned_names.Given as goal

abbrev pub invariant-loop-name : goal.invariant-loop-name
invariant-loop-name l =
    map (λ name. option_map string_bytes name) l.owned.items ≡ take l.name-index (map (λ name. option_map (λ text. text.now) name) l.name-items)
