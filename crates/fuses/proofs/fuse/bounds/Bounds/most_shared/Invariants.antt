-- The ends that are left after the beginnings so far.
use Rattle.std.proofs.Common.{◌≡◌, ◌≤◌, length, take}
use Rattle.rows.specs.Limits.{most_members}
use Rattle.fuses.proofs.Bounds.{ends_left}
use Rattle.fuses.proofs.fuse.bounds.Bounds.most_shared.Given as goal

abbrev pub invariant-loop-begin : goal.invariant-loop-begin
invariant-loop-begin l = record {
  left : l.left ≡ ends_left (take l.begin-index l.self.begins.times.now) l.self.ends.times.now;
  few : length l.left ≤ most_members;
}
