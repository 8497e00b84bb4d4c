-- What has been read so far.
use Rattle.std.proofs.Common.{◌≡◌, ℕ, List, ◌++◌}
use Rattle.std.specs.List.{flat_map, AllByRecursion}
use Rattle.runs.specs.declared.command.Command.{Command}
use Rattle.schedule.specs.Encoding.{encoding, Encodable}

-- the bytes are the commands read so far and the rest
abbrev pub Sofar : List ℕ → List Command → List ℕ → Type 0
Sofar bs cs rest = (bs ≡ flat_map encoding cs ++ rest) × AllByRecursion Encodable cs
