use Rattle.hsm_modes.specs.declared.Dir.TheVariants.{Encrypt, Decrypt}
use Rattle.hsm_modes.proofs.InPlace.{ecb_enciphered, ecb_deciphered, cbc_state}
use Rattle.hsm_modes.proofs.Cipher.blocks.Goals as goal

pub returns-in-Ecb-Encrypt-clause-blocks : goal.returns-in-Ecb-Encrypt-clause-blocks
returns-in-Ecb-Encrypt-clause-blocks c =
    (ecb_enciphered c.self.inside.key c.self.inside.mode c.self.inside.dir c.self.inside.chain c.args.self.now c.args.blocks.now c.encipher_each.new.blocks
    c.self.view_is c.in-Ecb-Encrypt.is-0 c.in-Ecb-Encrypt.is-1 c.encipher_each.ensures).0

pub returns-in-Ecb-Encrypt-clause-state : goal.returns-in-Ecb-Encrypt-clause-state
returns-in-Ecb-Encrypt-clause-state c =
    (ecb_enciphered c.self.inside.key c.self.inside.mode c.self.inside.dir c.self.inside.chain c.args.self.now c.args.blocks.now c.encipher_each.new.blocks
    c.self.view_is c.in-Ecb-Encrypt.is-0 c.in-Ecb-Encrypt.is-1 c.encipher_each.ensures).1

pub returns-in-Ecb-Decrypt-clause-blocks : goal.returns-in-Ecb-Decrypt-clause-blocks
returns-in-Ecb-Decrypt-clause-blocks c =
    (ecb_deciphered c.self.inside.key c.self.inside.mode c.self.inside.dir c.self.inside.chain c.args.self.now c.args.blocks.now c.decipher_each.new.blocks
    c.self.view_is c.in-Ecb-Decrypt.is-0 c.in-Ecb-Decrypt.is-1 c.decipher_each.ensures).0

pub returns-in-Ecb-Decrypt-clause-state : goal.returns-in-Ecb-Decrypt-clause-state
returns-in-Ecb-Decrypt-clause-state c =
    (ecb_deciphered c.self.inside.key c.self.inside.mode c.self.inside.dir c.self.inside.chain c.args.self.now c.args.blocks.now c.decipher_each.new.blocks
    c.self.view_is c.in-Ecb-Decrypt.is-0 c.in-Ecb-Decrypt.is-1 c.decipher_each.ensures).1

pub returns-in-Cbc-Encrypt-clause-state : goal.returns-in-Cbc-Encrypt-clause-state
returns-in-Cbc-Encrypt-clause-state c =
    cbc_state c.self.inside.key c.self.inside.mode c.self.inside.dir Encrypt c.self.inside.chain c.encipher_chained-self-inside.result c.args.self.now c.args.blocks.now
    c.self.view_is c.in-Cbc-Encrypt.is-0 c.in-Cbc-Encrypt.is-1 c.encipher_chained-self-inside.ensures.chain

pub returns-in-Cbc-Decrypt-clause-state : goal.returns-in-Cbc-Decrypt-clause-state
returns-in-Cbc-Decrypt-clause-state c =
    cbc_state c.self.inside.key c.self.inside.mode c.self.inside.dir Decrypt c.self.inside.chain c.decipher_chained-self-inside.result c.args.self.now c.args.blocks.now
    c.self.view_is c.in-Cbc-Decrypt.is-0 c.in-Cbc-Decrypt.is-1 c.decipher_chained-self-inside.ensures.chain
