-- The faults of MAC data.
use Rattle.std.proofs.Common.{◌≡◌, ℕ, ◌/◌, ◌%◌, Bool, true, false, not, ◌||◌, ◌&&◌, ◌==◌, List, [], ◌∷◌, length, map, Option, Some, None, refl, sym, ap, ◌∙◌, arith}
use Rattle.std.specs.Prelude.{if◌then◌else◌, codes}
use Rattle.std.specs.Str.{bytes_eq}
use Rattle.std.proofs.lemmas.Bool.Decides.{nat_tests}
use Rattle.hsm_mac.specs.declared.Pad.{Pad}
use Rattle.hsm_mac.specs.Macs.{fills_blocks, is_bare, is_length}
use Rattle.hsm_nibbles.specs.Characters.{bytes_of_hex}
use Rattle.hsm_rows.specs.declared.rules.MacFields.{MacFields}
use Rattle.hsm_rows.specs.Reading.{ReadText, is_end}
use Rattle.hsm_answers.specs.Read.{ReadMessage}
use Rattle.hsm_answers.specs.Keys.{field_text}
use Rattle.hsm_answers.specs.Macs.{mac_fault, mac_data, mac_padding}
use Rattle.hsm_mac.specs.declared.Alg.{Alg}
use Rattle.hsm_mac.specs.Macs.{mac, chained, blocks_of, padded}
use Rattle.hsm_nibbles.specs.Nibbles.{block_of}
use Rattle.hsm_nibbles.specs.Characters.{digit_value}
use Rattle.hsm_answers.specs.Keys.{lmk_key}
use Rattle.hsm_answers.specs.Macs.{is_only, mac_algorithm, mac_start}
use Rattle.hsm_commands.specs.declared.mac.Part.TheVariants.{Only, Last, Open}
use Rattle.hsm_commands.specs.Macs.{refused_by, mac_asked, part_value, is_uneven, ends_by, value_under}

pub held_same : {a b : List (List ℕ)} → Some a ≡ Some b → a ≡ b
held_same h = cc

-- two digits a byte
pub hex_half : (t : List ℕ) → length t % 2 ≡ 0 → length (bytes_of_hex t) ≡ length t / 2
hex_half [] h = omega arith
hex_half (a ∷ []) h = absurd (omega arith)
hex_half (a ∷ b ∷ rest) h =
    let even : length rest % 2 ≡ 0 = omega arith in
    omega (arith, hex_half rest even)

no_bytes : (bytes : List ℕ) → (length bytes == 0) ≡ is_end bytes
no_bytes [] = refl
no_bytes (x ∷ xs) = grind (arith, nat_tests)

-- the fault of a message's data, by their number
pub fault_is : (r : ReadText) (f : MacFields)
    → refused_by (bytes_eq (field_text r f.mode) (codes "0")) (bytes_eq (field_text r f.mode) (codes "3")) (mac_padding r f) (length (mac_data r f)) ≡ mac_fault r f
unfolding mac_fault
fault_is r f =
    let bytes = mac_data r f in
    let only = bytes_eq (field_text r f.mode) (codes "0") in
    let three = bytes_eq (field_text r f.mode) (codes "3") in
    let pad = mac_padding r f in
    let P : Bool → Option ℕ = λ e. if e then Some 80 else if (not (only || three) || is_bare pad) && not (length bytes % 8 == 0) then Some 80 else if is_length pad && not only then Some 80 else None in
    ap P (no_bytes bytes)

abbrev uneven_code : Option ℕ
uneven_code = Some 80

whole_form : (empty bare fills long : Bool) → (if empty || (bare && not fills) then uneven_code else None)
    ≡ (if empty then uneven_code else if (false || bare) && not fills then uneven_code else if long && false then uneven_code else None)
whole_form true bare fills long = refl
whole_form false true true true = refl
whole_form false true true false = refl
whole_form false true false long = refl
whole_form false false fills true = refl
whole_form false false fills false = refl

last_form : (empty bare fills long : Bool) → (if empty || (long || (bare && not fills)) then uneven_code else None)
    ≡ (if empty then uneven_code else if (false || bare) && not fills then uneven_code else if long && true then uneven_code else None)
last_form true bare fills long = refl
last_form false true true true = refl
last_form false true true false = refl
last_form false true false true = refl
last_form false true false false = refl
last_form false false fills true = refl
last_form false false fills false = refl

part_form : (empty bare fills long : Bool) → (if long || (empty || not fills) then uneven_code else None)
    ≡ (if empty then uneven_code else if (true || bare) && not fills then uneven_code else if long && true then uneven_code else None)
part_form true bare fills true = refl
part_form true bare fills false = refl
part_form false bare true true = refl
part_form false bare true false = refl
part_form false bare false true = refl
part_form false bare false false = refl

-- the fault of data, by what the mode says
fault_by : Bool → Bool → Pad → List ℕ → Option ℕ
fault_by only three pad bytes =
    if is_end bytes then uneven_code
    else if (not (only || three) || is_bare pad) && not (fills_blocks bytes) then uneven_code
    else if is_length pad && not only then uneven_code
    else None

fault_of : (only three : Bool) (pad : Pad) (bytes : List ℕ) (start : ℕ)
    → (if is_uneven pad bytes (if only then Only else if three then Last start else Open start) then uneven_code else None)
    ≡ fault_by only three pad bytes
unfolding fault_by
fault_of true three pad bytes start =
    ap (λ (e : Bool). if e || (is_bare pad && not (fills_blocks bytes)) then uneven_code else None) (no_bytes bytes)
    ∙ whole_form (is_end bytes) (is_bare pad) (fills_blocks bytes) (is_length pad)
fault_of false true pad bytes start =
    ap (λ (e : Bool). if e || (is_length pad || (is_bare pad && not (fills_blocks bytes))) then uneven_code else None) (no_bytes bytes)
    ∙ last_form (is_end bytes) (is_bare pad) (fills_blocks bytes) (is_length pad)
fault_of false false pad bytes start =
    ap (λ (e : Bool). if is_length pad || (e || not (fills_blocks bytes)) then uneven_code else None) (no_bytes bytes)
    ∙ part_form (is_end bytes) (is_bare pad) (fills_blocks bytes) (is_length pad)

-- the fault of a message's data
mac_faults : (r : ReadText) (f : MacFields) → (if is_uneven (mac_asked r f).pad (mac_data r f) (mac_asked r f).part then uneven_code else None) ≡ mac_fault r f
unfolding fault_by mac_fault
mac_faults r f =
    fault_of (bytes_eq (field_text r f.mode) (codes "0")) (bytes_eq (field_text r f.mode) (codes "3")) (mac_padding r f) (mac_data r f) (mac_start r f)

none_even : (b : Bool) → (if b then uneven_code else None) ≡ None → b ≡ false
none_even true h = let z : ⊥ = cc in absurd z
none_even false h = refl

-- data without a fault has a value
pub even_data : (r : ReadText) (f : MacFields) → mac_fault r f ≡ None → is_uneven (mac_asked r f).pad (mac_data r f) (mac_asked r f).part ≡ false
even_data r f h = none_even (is_uneven (mac_asked r f).pad (mac_data r f) (mac_asked r f).part) (mac_faults r f ∙ h)

ends_value : (only three : Bool) (key : List (List ℕ)) (alg : Alg) (pad : Pad) (bytes : List ℕ) (start : ℕ) → (only || three) ≡ true
    → (only ≡ true → start ≡ 0)
    → part_value key alg pad bytes (if only then Only else if three then Last start else Open start)
    ≡ mac key alg start (blocks_of (padded pad bytes))
ends_value true three key alg pad bytes start h zero = ap (λ (x : ℕ). mac key alg x (blocks_of (padded pad bytes))) (sym (zero refl))
ends_value false true key alg pad bytes start h zero = refl
ends_value false false key alg pad bytes start h zero = absurd (cc)

open_value : (only three : Bool) (key : List (List ℕ)) (alg : Alg) (pad : Pad) (bytes : List ℕ) (start : ℕ) → (only || three) ≡ false
    → part_value key alg pad bytes (if only then Only else if three then Last start else Open start) ≡ chained alg key start (blocks_of bytes)
open_value true three key alg pad bytes start h = absurd (cc)
open_value false true key alg pad bytes start h = absurd (cc)
open_value false false key alg pad bytes start h = refl

module _ (q : ReadMessage) (f : MacFields) where
  -- the MAC
  pub mac_is : (is_only q.read f ≡ true → field_text q.read f.chain ≡ []) → ends_by (field_text q.read f.mode) ≡ true
      → value_under (lmk_key q f.key) q.read f ≡ mac (lmk_key q f.key) (mac_algorithm q.read f) (mac_start q.read f) (blocks_of (padded (mac_padding q.read f) (mac_data q.read f)))
  mac_is whole ends =
      let start : ℕ = mac_start q.read f in
      let zero : is_only q.read f ≡ true → start ≡ 0 = λ h. ap (λ (t : List ℕ). if is_end t then 0 else block_of (map digit_value t)) (whole h) in
      ends_value (bytes_eq (field_text q.read f.mode) (codes "0")) (bytes_eq (field_text q.read f.mode) (codes "3")) (lmk_key q f.key)
      (mac_algorithm q.read f) (mac_padding q.read f) (mac_data q.read f) start ends zero

  -- the chaining value
  pub chain_is : ends_by (field_text q.read f.mode) ≡ false
      → value_under (lmk_key q f.key) q.read f ≡ chained (mac_algorithm q.read f) (lmk_key q f.key) (mac_start q.read f) (blocks_of (mac_data q.read f))
  chain_is goes =
      open_value (bytes_eq (field_text q.read f.mode) (codes "0")) (bytes_eq (field_text q.read f.mode) (codes "3")) (lmk_key q f.key)
      (mac_algorithm q.read f) (mac_padding q.read f) (mac_data q.read f) (mac_start q.read f) goes
