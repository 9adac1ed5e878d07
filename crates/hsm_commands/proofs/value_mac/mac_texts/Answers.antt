use Rattle.std.proofs.Common.{◌≡◌, ℕ, List, Bool, true, false, sym, ap, ◌∙◌, take}
use Rattle.std.specs.Prelude.{[], codes, if◌then◌else◌}
use Rattle.std.specs.Str.{bytes_eq}
use Rattle.hsm_answers.specs.Keys.{field_text, lmk_key}
use Rattle.hsm_answers.specs.Pins.{block_text}
use Rattle.hsm_answers.specs.Macs.{mac_text, chain_text}
use Rattle.hsm_answers.specs.Values.{row_value, chain_value}
use Rattle.hsm_commands.specs.Request.{message_of}
use Rattle.hsm_commands.specs.Macs.{ends_by, value_under}
use Rattle.hsm_commands.proofs.MacLaws.{mac_is, chain_is, held_same}
use Rattle.hsm_commands.proofs.value_mac.mac_texts.Goals as goal

pub returns-then-ends_by-clause-value : goal.returns-then-ends_by-clause-value
unfolding row_value mac_text
returns-then-ends_by-clause-value c =
    let q = message_of c.args.request.now in
    let f = c.args.f.now in
    let ends : ends_by (field_text q.read f.mode) ≡ true = rw c.text_of.ensures at (sym c.ends_by.ensures ∙ c.if-ends_by.true) in
    let key : c.held_key.result ≡ lmk_key q f.key = held_same (sym c.held_key.ensures ∙ c.requires.stands.1.0) in
    let value = c.data_value.ensures ∙ (ap (λ (k : List (List ℕ)). value_under k q.read f) key ∙ mac_is q f c.requires.stands.0.whole ends) in
    let digits = c.block_characters-digits.ensures ∙ ap block_text value in
    let sized = rw c.text_of-then-ends_by.ensures at c.mac_digits.ensures in
    sized
    ∙ (ap (λ (x : List ℕ). if bytes_eq (field_text q.read f.size) (codes "0") then take 8 x else x) digits
    ∙ sym (ap (λ (b : Bool). if b then mac_text q f else []) ends))

pub returns-else-ends_by-clause-chain : goal.returns-else-ends_by-clause-chain
unfolding chain_value chain_text
returns-else-ends_by-clause-chain c =
    let q = message_of c.args.request.now in
    let f = c.args.f.now in
    let goes : ends_by (field_text q.read f.mode) ≡ false = rw c.text_of.ensures at (sym c.ends_by.ensures ∙ c.if-ends_by.false) in
    let key : c.held_key.result ≡ lmk_key q f.key = held_same (sym c.held_key.ensures ∙ c.requires.stands.1.0) in
    let value = c.data_value.ensures ∙ (ap (λ (k : List (List ℕ)). value_under k q.read f) key ∙ chain_is q f goes) in
    c.block_characters-digits.ensures
    ∙ (ap block_text value ∙ sym (ap (λ (b : Bool). if b then [] else chain_text q f) goes))
