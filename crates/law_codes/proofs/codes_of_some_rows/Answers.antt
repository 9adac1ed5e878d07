use Rattle.law_codes.proofs.Some.{of_B2, of_GC, of_M8, of_NG}
use Rattle.law_codes.proofs.codes_of_some_rows.Goals as goal

pub returns : goal.returns
returns c = record { ng = of_NG; b2 = of_B2; m8 = of_M8; gc = of_GC }
