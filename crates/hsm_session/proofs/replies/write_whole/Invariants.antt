use Rattle.std.proofs.Common.{◌≡◌, ◌≤◌, ◌-◌, length, take}
use Rattle.hsm_session.proofs.Talking.{SaysTo}
use Rattle.hsm_session.proofs.replies.write_whole.Given as goal

abbrev pub invariant-writes : goal.invariant-writes
invariant-writes g l = record {
  within : l.at ≤ length l.text;
  kept : g.K.Link.faults l.link ≡ g.K.Link.faults l.initial.link;
  told : SaysTo (g.K.Link.traffic l.initial.link) (g.K.Link.traffic l.link) (take l.at l.text);
}

abbrev pub decreases-writes : goal.decreases-writes
decreases-writes g l = length l.text - l.at
