-- What readings share fuses to one thing only.
use Rattle.std.proofs.Common.{◌∙◌, subst}
use Rattle.std.specs.List.Sorted.{IsPermutation}
use Rattle.fuses.specs.Fuses.{members, need}
use Rattle.fuses.specs.Sharing.{intervals_of, sharing, Fuses, fused}
use Rattle.fuses.specs.Lemmas.Meaning.{only}
use Rattle.fuses.specs.Lemmas.Readings.{fused_right}
use Rattle.fuses.specs.Lemmas.Fuses.{need_some}
use Rattle.fuses.proofs.fuse.Fuse.agreed.Goals as goal

pub returns : goal.returns
returns g c =
    let is = intervals_of (members g.B.Bank c.args.self.now.bank) in
    let n = need (g.B.Bank.size c.args.self.now.bank) c.args.self.now.tolerated in
    let begun = subst (λ times. IsPermutation times c.sorted.result.times.now) (c.as_mut_slice.ensures.value ∙ c.gather.ensures.begins) c.sorted.ensures in
    let ended = subst (λ times. IsPermutation times c.sorted-2.result.times.now) (c.as_mut_slice-2.ensures.value ∙ c.gather.ensures.ends) c.sorted-2.ensures in
    let right = subst (λ k. Fuses k (sharing is) c.fused.result) c.need.ensures (c.fused.ensures is (record { begun = begun; ended = ended })) in
    only n (sharing is) c.fused.result (fused n is) right (fused_right is n (need_some _ _))
