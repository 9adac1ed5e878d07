-- Needs one after another.
use Rattle.std.specs.Prelude.{Some}
use Rattle.hsm_auth.specs.declared.activity.Activity.{Activity}
use Rattle.hsm_auth.specs.declared.entry.Needs.{Needs}

-- the needs with one more before them, of which two are kept
abbrev pub after_need : Activity → Needs → Needs
after_need first more = record { first = Some first; second = more.first }
