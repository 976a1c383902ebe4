use Rattle.std.proofs.Common.{◌≡◌, ◌+◌, ◌≤◌, ◌-◌, vec_len}
use Rattle.std.specs.Io.KnownBytes.{prepend_known}
use Rattle.hp_io.proofs.source.fill.Given as goal

abbrev pub invariant-loop-source : goal.invariant-loop-source
invariant-loop-source g l = record {
  within : vec_len l.bytes ≤ l.most + 1;
  kept : prepend_known l.bytes.items (g.S.Source.left l.source) ≡ prepend_known l.fn.bytes.items (g.S.Source.left l.fn.source);
  counted : g.S.Source.faults l.source ≡ g.S.Source.faults l.fn.source;
}

abbrev pub decreases-loop-source : goal.decreases-loop-source
decreases-loop-source g l = (l.most + 1) - vec_len l.bytes
