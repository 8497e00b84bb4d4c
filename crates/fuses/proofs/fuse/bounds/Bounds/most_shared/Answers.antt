-- The ends that all beginnings leave are as many as share one time.
use Rattle.std.proofs.Common.{length, sym, subst, ap, ◌∙◌, take_all, arith}
use Rattle.fuses.specs.Sharing.{sharing, Most}
use Rattle.fuses.proofs.Bounds.{ends_left, most_is}
use Rattle.fuses.proofs.fuse.bounds.Bounds.most_shared.Goals as goal

pub returns : goal.returns
returns c = λ is of.
    let bounds = c.args.self.now in
    let all = c.loop-begin.invariant.left ∙ ap (λ begins. ends_left begins bounds.ends.times.now) (take_all c.loop-begin.begin-index bounds.begins.times.now (omega arith)) in
    subst (Most (sharing is)) (sym (ap length all)) (most_is is _ _ of bounds.begins.rising bounds.ends.rising)
