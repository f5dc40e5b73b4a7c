use Rattle.std.proofs.Common.{◌≡◌, map, string_bytes, take}
use Rattle.clap.specs.Walk.{texts}
use Rattle.command_line.proofs.mixed.owned.Given as goal

abbrev pub invariant-loop-name : goal.invariant-loop-name
invariant-loop-name l = map string_bytes l.all.items ≡ texts (take l.name-index l.names)
