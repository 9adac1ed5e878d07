use Rattle.std.proofs.Common.{rules, ◌≡◌, ◌∙◌, length, sym}
use Rattle.hsm_types.specs.Schemes.{scheme_parts}
use Rattle.hsm_lmk.specs.Opened.{open_answer}
use Rattle.hsm_answers.specs.Keys.{key_data_fault}
use Rattle.hsm_answers.proofs.Lengths.{opened_length, scheme_parts_asked}
use Rattle.hsm_answers.proofs.keys.check_under_lmk.Goals as goal

pub returns-in-Ok-clause-scheme : goal.returns-in-Ok-clause-scheme
unfolding open_answer key_data_fault
returns-in-Ok-clause-scheme c =
    let parts : length c.in-Ok.key ≡ scheme_parts c.args.given.now.scheme = search (rules, opened_length) in
    scheme_parts_asked c.args.asked.now c.args.given.now.scheme c.in-Ok.key parts (sym c.scheme_fails.ensures ∙ c.if-scheme_fails.false)
