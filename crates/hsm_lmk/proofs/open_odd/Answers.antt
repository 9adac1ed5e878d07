use Rattle.std.proofs.Common.{refl, false, true, Ok, Err}
use Rattle.std.proofs.lemmas.Bool.{iff_false}
use Rattle.hsm_lmk.specs.declared.OpenFault.TheVariants.{Parity}
use Rattle.hsm_lmk.specs.Opening.{Opens}
use Rattle.hsm_lmk.proofs.OpenAnswers.{opens-is}
use Rattle.hsm_lmk.proofs.open_odd.Goals as goal

pub returns-then-all_odd : goal.returns-then-all_odd
returns-then-all_odd c =
    let opens : Opens false true c.args.wrapping.now c.args.scheme c.args.text.now (Ok c.open_parts-key.result) =
    (refl, refl, c.open_parts-key.ensures, c.all_odd.ensures.0 c.if-all_odd.true) in
    record { parts = c.open_parts-key.ensures.parts; value = opens-is false true c.args.wrapping.now c.args.scheme c.args.text.now (Ok c.open_parts-key.result) opens }

pub returns-else-all_odd : goal.returns-else-all_odd
returns-else-all_odd c =
    let opens : Opens false true c.args.wrapping.now c.args.scheme c.args.text.now (Err Parity) =
    (refl, refl, c.open_parts-key.result, c.open_parts-key.ensures, λ odd. iff_false c.all_odd.ensures c.if-all_odd.false odd) in
    record { parts = tt; value = opens-is false true c.args.wrapping.now c.args.scheme c.args.text.now (Err Parity) opens }
