use Rattle.std.proofs.Common.{◌∙◌, ap, ◌-◌, ◌++◌, replicate, ℕ}
use Rattle.hsm_pinblock.specs.Blocks.{block_of_pin}
use Rattle.hsm_answers.specs.Draws.{drawn_fill}
use Rattle.hsm_answers.specs.Pins.{fill_length}
use Rattle.hsm_commands.proofs.LeftSteps.{same_block}
use Rattle.hsm_commands.proofs.reply_pins.block_drawn.Goals as goal

pub returns : goal.returns
returns c =
    let m = c.args.module.now in
    let format = c.args.asked.now.format in
    let pin = c.args.pin.now in
    let account = c.args.asked.now.account in
    let place = c.args.asked.now.place in
    c.build.ensures.value
    ∙ (ap (block_of_pin format pin account) (c.draw_fill-fill.ensures.fill ∙ ap (λ (n : ℕ). drawn_fill m format place n ++ replicate (14 - n) 15) c.fill_length.ensures.length)
    ∙ same_block m format pin account place (replicate (14 - fill_length format pin) 15))
