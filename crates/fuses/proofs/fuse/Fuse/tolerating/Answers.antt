-- The fuse made tolerates so many members that err.
use Rattle.fuses.specs.Lemmas.Fuses.{fuse_tolerates}
use Rattle.fuses.proofs.fuse.Fuse.tolerating.Goals as goal

pub returns-clause-tolerates : goal.returns-clause-tolerates
returns-clause-tolerates g c = fuse_tolerates g.B.Bank _
