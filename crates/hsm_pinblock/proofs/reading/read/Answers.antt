use Rattle.std.proofs.Common.{◌≡◌, ◌∙◌, ℕ, List, false, true, length, take, drop, ap, ap₂, sym, arith}
use Rattle.std.specs.List.{list_all}
use Rattle.hsm_types.specs.Pins.{is_decimal, is_pin}
use Rattle.hsm_pinblock.specs.Blocks.{is_fill}
use Rattle.hsm_pinblock.specs.Faults.{length_in, pin_in, fill_in}
use Rattle.hsm_pinblock.specs.Laws.{IsAccount}
use Rattle.hsm_pinblock.proofs.BlockLaws.{at_block, fault_control, fault_length, fault_body, length_fails_from, body_fails_digits, body_fails_fill, length_passes, pin_length, length_at, some_pin, read_holds, pin_facts, is_pin_from_some, no_pin_from_none, not_decimal, has_no_fault}
use Rattle.hsm_pinblock.proofs.reading.read.Goals as goal

pub returns-then-control_fails-clause-fault : goal.returns-then-control_fails-clause-fault
returns-then-control_fails-clause-fault c =
    sym (at_block c.args.format c.args.account.now c.args.block c.nibbles_of.result c.mixed-nibbles.result _ c.nibbles_of.ensures.nibbles c.mixed-nibbles.ensures
    (fault_control c.args.format c.mixed-nibbles.result (sym c.control_fails.ensures ∙ c.if-control_fails.true)))

pub returns-then-not-is_pin_length-clause-fault : goal.returns-then-not-is_pin_length-clause-fault
returns-then-not-is_pin_length-clause-fault c =
    sym (at_block c.args.format c.args.account.now c.args.block c.nibbles_of.result c.mixed-nibbles.result _ c.nibbles_of.ensures.nibbles c.mixed-nibbles.ensures
    (fault_length c.args.format c.mixed-nibbles.result (sym c.control_fails.ensures ∙ c.if-control_fails.false)
    (length_fails_from c.args.format c.mixed-nibbles.result c.length_in-length.result c.is_pin_length.result c.length_in-length.ensures c.is_pin_length.ensures c.if-not-is_pin_length.true)))

pub returns-in_default-clause-fault : goal.returns-in_default-clause-fault
returns-in_default-clause-fault c =
    let f = c.args.format in
    let x = c.mixed-nibbles.result in
    let pin_is : c.split_at.result.0.now ≡ pin_in f x = c.split_at.ensures.front ∙ ap₂ (λ (k : ℕ) (ys : List ℕ). take k ys) c.length_in-length.ensures c.body_in.ensures in
    let size : length x ≡ 16 = length_at f c.args.account.now c.args.block c.nibbles_of.result x c.told-account c.nibbles_of.ensures.nibbles c.mixed-nibbles.ensures in
    let size_is = pin_length c.length_in-length.result (length_in f x) c.is_pin_length.result c.length_in-length.ensures c.is_pin_length.ensures c.if-not-is_pin_length.false in
    let no_pin : is_pin (pin_in f x) ≡ false = ap is_pin (sym pin_is) ∙ no_pin_from_none c.split_at.result.0.now c.of.result c.of.ensures c.in_default.is in
    sym (at_block f c.args.account.now c.args.block c.nibbles_of.result x _ c.nibbles_of.ensures.nibbles c.mixed-nibbles.ensures
    (fault_body f x (sym c.control_fails.ensures ∙ c.if-control_fails.false) (length_passes (length_in f x) size_is.least size_is.most)
    (body_fails_digits f x (not_decimal f x size size_is.least size_is.most no_pin))))

pub returns-then-not-all_fill-clause-fault : goal.returns-then-not-all_fill-clause-fault
returns-then-not-all_fill-clause-fault c =
    let f = c.args.format in
    let x = c.mixed-nibbles.result in
    let pin_is : c.split_at.result.0.now ≡ pin_in f x = c.split_at.ensures.front ∙ ap₂ (λ (k : ℕ) (ys : List ℕ). take k ys) c.length_in-length.ensures c.body_in.ensures in
    let fill_is : c.split_at.result.1.now ≡ fill_in f x = c.split_at.ensures.back ∙ ap₂ (λ (k : ℕ) (ys : List ℕ). drop k ys) c.length_in-length.ensures c.body_in.ensures in
    let size_is = pin_length c.length_in-length.result (length_in f x) c.is_pin_length.result c.length_in-length.ensures c.is_pin_length.ensures c.if-not-is_pin_length.false in
    let told = is_pin_from_some c.split_at.result.0.now c.in-Some.pin c.of.result c.of.ensures c.in-Some.is in
    let digits : list_all is_decimal (pin_in f x) ≡ true = ap (list_all is_decimal) (sym pin_is) ∙ (pin_facts c.split_at.result.0.now told.0).decimal in
    sym (at_block f c.args.account.now c.args.block c.nibbles_of.result x _ c.nibbles_of.ensures.nibbles c.mixed-nibbles.ensures
    (fault_body f x (sym c.control_fails.ensures ∙ c.if-control_fails.false) (length_passes (length_in f x) size_is.least size_is.most)
    (body_fails_fill f x digits (ap (list_all (is_fill f)) (sym fill_is) ∙ sym c.all_fill.ensures ∙ c.if-not-all_fill.true))))

pub returns-clause-holds : goal.returns-clause-holds
returns-clause-holds c =
    let f = c.args.format in
    let x = c.mixed-nibbles.result in
    let a = c.args.account.now in
    let pin_is : c.split_at.result.0.now ≡ pin_in f x = c.split_at.ensures.front ∙ ap₂ (λ (k : ℕ) (ys : List ℕ). take k ys) c.length_in-length.ensures c.body_in.ensures in
    let fill_is : c.split_at.result.1.now ≡ fill_in f x = c.split_at.ensures.back ∙ ap₂ (λ (k : ℕ) (ys : List ℕ). drop k ys) c.length_in-length.ensures c.body_in.ensures in
    let told = is_pin_from_some c.split_at.result.0.now c.in-Some.pin c.of.result c.of.ensures c.in-Some.is in
    let digits : list_all is_decimal (pin_in f x) ≡ true = ap (list_all is_decimal) (sym pin_is) ∙ (pin_facts c.split_at.result.0.now told.0).decimal in
    let fill = ap (list_all (is_fill f)) (sym fill_is) ∙ sym c.all_fill.ensures ∙ c.if-not-all_fill.false in
    let size_is = pin_length c.length_in-length.result (length_in f x) c.is_pin_length.result c.length_in-length.ensures c.is_pin_length.ensures c.if-not-is_pin_length.false in
    let account : IsAccount a = record { long = c.told-account; decimal = c.requires } in
    let size : length x ≡ 16 = length_at f a c.args.block c.nibbles_of.result x c.told-account c.nibbles_of.ensures.nibbles c.mixed-nibbles.ensures in
    read_holds f a c.args.block c.nibbles_of.result x c.in-Some.pin account (omega arith) c.nibbles_of.ensures.nibbles c.mixed-nibbles.ensures
    (some_pin f x size (sym c.control_fails.ensures ∙ c.if-control_fails.false)
    size_is.least size_is.most digits fill)
    (told.1 ∙ pin_is)

pub returns-clause-fault : goal.returns-clause-fault
returns-clause-fault c =
    let account : IsAccount c.args.account.now = record { long = c.told-account; decimal = c.requires } in
    sym (has_no_fault c.args.format c.in-Some.pin c.args.account.now c.args.block account (returns-clause-holds c))
