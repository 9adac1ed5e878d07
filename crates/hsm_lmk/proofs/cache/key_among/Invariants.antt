use Rattle.std.proofs.Common.{◌≡◌, drop}
use Rattle.hsm_lmk.specs.Cache.{entry_of}
use Rattle.hsm_lmk.proofs.cache.key_among.Given as goal

abbrev pub invariant-loop-entry : goal.invariant-loop-entry
invariant-loop-entry l = entry_of l.set l.ty l.scheme l.text l.entries ≡ entry_of l.set l.ty l.scheme l.text (drop l.entry-index l.entries)
