use Rattle.hsm_pinblock.proofs.sealing.seal_pin.Goals as goal

pub returns-clause-sealed : goal.returns-clause-sealed
returns-clause-sealed c = record { clear = c.build.result; holds = c.build.ensures.holds; sealed = c.encipher_pair.ensures }
