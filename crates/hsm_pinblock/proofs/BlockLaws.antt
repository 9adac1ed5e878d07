-- Laws of PIN blocks and of their faults.
use Rattle.std.proofs.Common.{◌≡◌, ℕ, zero, suc, ◌-◌, ◌^◌, ◌<◌, ◌≤◌, ◌∙◌, lit<, Bool, true, false, not, ◌&&◌, cond, eqb, leb, Option, Some, None, List, [], ◌∷◌, ◌++◌, length, take, drop, replicate, refl, sym, ap, ap₂, subst, arith, ◌⊎◌, inl, inr, length-append, length-drop, length-take-le, take-append-drop}
use Rattle.std.specs.List.{list_all, prefix_len, take_while}
use Rattle.std.specs.Int.Digits.{AllBelowBase}
use Rattle.std.proofs.lemmas.List.{take_at, drop_at, length-replicate}
use Rattle.std.proofs.lemmas.List.Folds.{length-prefix_len}
use Rattle.std.proofs.lemmas.Bool.{and_parts, and_from, not-false, le-leb, leb-true, ltb-true, eqb-true}
use Rattle.hsm_types.specs.Pins.{is_decimal, is_pin}
use Rattle.hsm_nibbles.specs.Nibbles.{nibbles_of, block_of}
use Rattle.hsm_nibbles.proofs.NibbleLaws.{length-nibbles_of, nibbles_of-block_of, block_of-lt, length-xor_nibbles, xor_nibbles-below, xor_nibbles-twice, append-below, replicate-below, take-below, below_from_test}
use Rattle.hsm_pinblock.specs.Blocks.{account_field, pin_field, mixed, is_fill, takes_fill, permits_fill, Block, HoldsPin}
use Rattle.hsm_pinblock.specs.Faults.{control_fails, length_in, length_fails, body_in, pin_in, fill_in, body_fails, field_fault, blockfault, opened_block, pin_of_block}
use Rattle.hsm_tdes.specs.Tdes.{deciphered}
use Rattle.hsm_tdes.proofs.TdesLaws.{deciphered-enciphered}
use Rattle.hsm_lmk.specs.Pairs.{lmk_pair}
use Rattle.hsm_pinblock.specs.Laws.{IsAccount, HoldsExactlyOne, HasFault, OnePinOrFault, HoldsOnePin, HasNoFault, HoldsSomePin, IsPinOfBlock, OpensAgain}
use Rattle.hsm_pinblock.specs.declared.Format.{Format}
use Rattle.hsm_pinblock.specs.declared.Format.TheVariants.{F01, F03, F05, F47}
use Rattle.hsm_pinblock.specs.declared.BlockFault.{BlockFault}
use Rattle.hsm_pinblock.specs.declared.BlockFault.TheVariants.{Control, Length, Body}

-- ---- what a PIN is

pub record PinFacts (pin : List ℕ) : Type 0 where
  pub least : 4 ≤ length pin
  pub most : length pin ≤ 12
  pub decimal : list_all is_decimal pin ≡ true

pub pin_facts : (pin : List ℕ) → is_pin pin ≡ true → PinFacts pin
pin_facts pin h =
    let first = and_parts (leb 4 (length pin)) (leb (length pin) 12 && list_all is_decimal pin) h in
    let second = and_parts (leb (length pin) 12) (list_all is_decimal pin) first.1 in
    record {
      least = leb-true 4 (length pin) first.0;
      most = leb-true (length pin) 12 second.0;
      decimal = second.1;
    }

pub pin_from_facts : (pin : List ℕ) → 4 ≤ length pin → length pin ≤ 12 → list_all is_decimal pin ≡ true → is_pin pin ≡ true
pin_from_facts pin least most decimal =
    and_from (leb 4 (length pin)) (leb (length pin) 12 && list_all is_decimal pin) (le-leb 4 (length pin) least)
    (and_from (leb (length pin) 12) (list_all is_decimal pin) (le-leb (length pin) 12 most) decimal)

-- ---- tests of whole lists

list_all-take : (p : ℕ → Bool) (n : ℕ) (xs : List ℕ) → list_all p xs ≡ true → list_all p (take n xs) ≡ true
list_all-take p zero xs h = refl
list_all-take p (suc n) [] h = refl
list_all-take p (suc n) (x ∷ xs) h =
    let parts = and_parts (p x) (list_all p xs) h in and_from (p x) (list_all p (take n xs)) parts.0 (list_all-take p n xs parts.1)

list_all-append : (p : ℕ → Bool) (xs ys : List ℕ) → list_all p xs ≡ true → list_all p ys ≡ true → list_all p (xs ++ ys) ≡ true
list_all-append p [] ys h k = k
list_all-append p (x ∷ xs) ys h k =
    let parts = and_parts (p x) (list_all p xs) h in and_from (p x) (list_all p (xs ++ ys)) parts.0 (list_all-append p xs ys parts.1 k)

list_all-replicate : (p : ℕ → Bool) (n y : ℕ) → p y ≡ true → list_all p (replicate n y) ≡ true
list_all-replicate p zero y h = refl
list_all-replicate p (suc n) y h = and_from (p y) (list_all p (replicate n y)) h (list_all-replicate p n y h)

-- all F
all_last : (xs : List ℕ) → list_all (λ n. eqb n 15) xs ≡ true → xs ≡ replicate (length xs) 15
all_last [] h = refl
all_last (x ∷ xs) h =
    let parts = and_parts (eqb x 15) (list_all (λ n. eqb n 15) xs) h in
    ap₂ (λ (y : ℕ) (ys : List ℕ). y ∷ ys) (eqb-true x 15 parts.0) (all_last xs parts.1)

prefix_len-append : (p : ℕ → Bool) (xs ys : List ℕ) → list_all p xs ≡ true → prefix_len p ys ≡ 0 → prefix_len p (xs ++ ys) ≡ length xs
prefix_len-append p [] ys h k = k
prefix_len-append p (x ∷ xs) ys h k =
    let parts = and_parts (p x) (list_all p xs) h in
    let deep = prefix_len-append p xs ys parts.1 k in
    rw (parts.0, deep) (omega arith)

no_decimal : (n : ℕ) → prefix_len is_decimal (replicate n 15) ≡ 0
no_decimal zero = refl
no_decimal (suc n) = refl

-- ---- fields

decimal_below : (y : ℕ) → is_decimal y ≡ true → y < 16
decimal_below y h = omega (arith, ltb-true y 10 h)

fill_below : (f : Format) (fill : List ℕ) → takes_fill f ≡ true → permits_fill f fill ≡ true → AllBelowBase 16 fill
fill_below F01 fill t h = cc
fill_below F03 fill t h = cc
fill_below F05 fill t h = below_from_test (is_fill F05) (λ y k. let le = leb-true y 15 k in omega arith) fill h
fill_below F47 fill t h =
    below_from_test (is_fill F47) (λ y k. let parts = and_parts (leb 10 y) (leb y 15) k in let le = leb-true y 15 parts.1 in omega arith) fill h

pub pin_field-below : (f : Format) (pin fill : List ℕ) → is_pin pin ≡ true → permits_fill f fill ≡ true → AllBelowBase 16 (pin_field f pin fill)
pin_field-below f pin fill h k =
    let facts = pin_facts pin h in
    let most : length pin ≤ 12 = facts.most in
    let size : length pin < 16 = omega arith in
    let digits = below_from_test is_decimal decimal_below pin facts.decimal in
    elim f as (λ v. permits_fill v fill ≡ true → AllBelowBase 16 (pin_field v pin fill)) [
      | F01 ↦ λ _. (lit< tt, (size, append-below pin (replicate (14 - length pin) 15) digits (replicate-below (14 - length pin) 15 (lit< tt))))
      | F03 ↦ λ _. append-below pin (replicate (16 - length pin) 15) digits (replicate-below (16 - length pin) 15 (lit< tt))
      | F05 ↦ λ p. (lit< tt, (size, append-below pin (take (14 - length pin) fill) digits (take-below (14 - length pin) fill (fill_below F05 fill refl p))))
      | F47 ↦ λ p. (lit< tt, (size, append-below pin (take (14 - length pin) fill) digits (take-below (14 - length pin) fill (fill_below F47 fill refl p))))
    ] k

pub length-pin_field : (f : Format) (pin fill : List ℕ) → is_pin pin ≡ true → length fill ≡ 14 → length (pin_field f pin fill) ≡ 16
length-pin_field f pin fill h len =
    let facts = pin_facts pin h in
    let most : length pin ≤ 12 = facts.most in
    let front = length-take-le (14 - length pin) fill (omega arith) in
    let joined = length-append pin (take (14 - length pin) fill) in
    elim f as (λ v. length (pin_field v pin fill) ≡ 16) [
      | F01 ↦ omega (arith, length-append pin (replicate (14 - length pin) 15), length-replicate {A = ℕ} (14 - length pin) 15)
      | F03 ↦ omega (arith, length-append pin (replicate (16 - length pin) 15), length-replicate {A = ℕ} (16 - length pin) 15)
      | F05 ↦ omega arith
      | F47 ↦ omega arith
    ]

account_below : (account : List ℕ) → list_all is_decimal account ≡ true → AllBelowBase 16 (account_field account)
account_below account h =
    let digits = below_from_test is_decimal decimal_below account h in
    (lit< tt, (lit< tt, (lit< tt, (lit< tt, digits))))

pub mixed-below : (f : Format) (account x : List ℕ) → list_all is_decimal account ≡ true → AllBelowBase 16 x → AllBelowBase 16 (mixed f account x)
mixed-below F01 account x h k = xor_nibbles-below x (account_field account) k (account_below account h)
mixed-below F47 account x h k = xor_nibbles-below x (account_field account) k (account_below account h)
mixed-below F05 account x h k = k
mixed-below F03 account x h k = k

pub length-mixed : (f : Format) (account x : List ℕ) → length account ≡ 12 → length x ≡ 16 → length (mixed f account x) ≡ 16
length-mixed F01 account x h k = length-xor_nibbles x (account_field account) (omega arith) ∙ k
length-mixed F47 account x h k = length-xor_nibbles x (account_field account) (omega arith) ∙ k
length-mixed F05 account x h k = k
length-mixed F03 account x h k = k

pub mixed-mixed : (f : Format) (account x : List ℕ) → length account ≡ 12 → length x ≡ 16 → mixed f account (mixed f account x) ≡ x
mixed-mixed F01 account x h k = xor_nibbles-twice x (account_field account) (omega arith)
mixed-mixed F47 account x h k = xor_nibbles-twice x (account_field account) (omega arith)
mixed-mixed F05 account x h k = refl
mixed-mixed F03 account x h k = refl

-- ---- faults

pub fault_control : (f : Format) (x : List ℕ) → control_fails f x ≡ true → field_fault f x ≡ Some Control
unfolding field_fault
fault_control f x h = rw h refl

pub fault_length : (f : Format) (x : List ℕ) → control_fails f x ≡ false → length_fails f x ≡ true → field_fault f x ≡ Some Length
unfolding field_fault
fault_length f x h k = rw (h, k) refl

pub fault_body : (f : Format) (x : List ℕ) → control_fails f x ≡ false → length_fails f x ≡ false → body_fails f x ≡ true → field_fault f x ≡ Some Body
unfolding field_fault
fault_body f x h k b = rw (h, k, b) refl

pub fault_none : (f : Format) (x : List ℕ) → control_fails f x ≡ false → length_fails f x ≡ false → body_fails f x ≡ false → field_fault f x ≡ None
unfolding field_fault
fault_none f x h k b = rw (h, k, b) refl

passes : (a b c : Bool) → cond a (Some Control) (cond b (Some Length) (cond c (Some Body) None)) ≡ None → (a ≡ false) × (b ≡ false) × (c ≡ false)
passes true b c h = cc
passes false true c h = cc
passes false false true h = cc
passes false false false h = (refl, refl, refl)

none_from_fault : (f : Format) (x : List ℕ) → field_fault f x ≡ None → (control_fails f x ≡ false) × (length_fails f x ≡ false) × (body_fails f x ≡ false)
unfolding field_fault
none_from_fault f x h = passes (control_fails f x) (length_fails f x) (body_fails f x) h

pub length_passes : (n : ℕ) → 4 ≤ n → n ≤ 12 → not (leb 4 n && leb n 12) ≡ false
length_passes n least most = rw (le-leb 4 n least, le-leb n 12 most) refl

-- ---- a PIN's field has no fault

-- the length and the parts that a field shows are those of its PIN
pub record Shows (f : Format) (pin x : List ℕ) : Type 0 where
  pub control : control_fails f x ≡ false
  pub size : length_in f x ≡ length pin
  pub pin_is : pin_in f x ≡ pin
  pub fill_passes : list_all (is_fill f) (fill_in f x) ≡ true

pub field_shows : (f : Format) (pin fill : List ℕ) → is_pin pin ≡ true → permits_fill f fill ≡ true → Shows f pin (pin_field f pin fill)
field_shows F01 pin fill h k =
    let rest = replicate (14 - length pin) 15 in
    record {
      control = refl;
      size = refl;
      pin_is = take_at pin rest (length pin) refl;
      fill_passes = rw (drop_at pin rest (length pin) refl) (list_all-replicate (is_fill F01) (14 - length pin) 15 refl);
    }
field_shows F47 pin fill h k =
    let rest = take (14 - length pin) fill in
    record {
      control = refl;
      size = refl;
      pin_is = take_at pin rest (length pin) refl;
      fill_passes = rw (drop_at pin rest (length pin) refl) (list_all-take (is_fill F47) (14 - length pin) fill k);
    }
field_shows F05 pin fill h k =
    let rest = take (14 - length pin) fill in
    record {
      control = refl;
      size = refl;
      pin_is = take_at pin rest (length pin) refl;
      fill_passes = rw (drop_at pin rest (length pin) refl) (list_all-take (is_fill F05) (14 - length pin) fill k);
    }
field_shows F03 pin fill h k =
    let rest = replicate (16 - length pin) 15 in
    let facts = pin_facts pin h in
    let front : prefix_len is_decimal (pin ++ rest) ≡ length pin = prefix_len-append is_decimal pin rest facts.decimal (no_decimal (16 - length pin)) in
    let size : length (take_while is_decimal (pin ++ rest)) ≡ length pin = length-prefix_len is_decimal (pin ++ rest) ∙ front in
    record {
      control = refl;
      size = size;
      pin_is = ap (λ (n : ℕ). take n (pin ++ rest)) size ∙ take_at pin rest (length pin) refl;
      fill_passes =
          ap (λ (n : ℕ). list_all (is_fill F03) (drop n (pin ++ rest))) size
          ∙ ap (list_all (is_fill F03)) (drop_at pin rest (length pin) refl)
          ∙ list_all-replicate (is_fill F03) (16 - length pin) 15 refl;
    }

pub no_fault : (f : Format) (pin x : List ℕ) → is_pin pin ≡ true → Shows f pin x → field_fault f x ≡ None
no_fault f pin x h s =
    let facts = pin_facts pin h in
    let n : length_in f x ≡ length pin = s.size in
    let least : 4 ≤ length_in f x = omega (arith, facts.least) in
    let most : length_in f x ≤ 12 = omega (arith, facts.most) in
    fault_none f x s.control (length_passes (length_in f x) least most)
    (ap not (and_from (list_all is_decimal (pin_in f x)) (list_all (is_fill f) (fill_in f x)) (ap (list_all is_decimal) s.pin_is ∙ facts.decimal) s.fill_passes))

-- ---- nibbles without a fault are a PIN's field

-- some fill with which the nibbles are the PIN's field
pub record Fills (f : Format) (x : List ℕ) : Type 0 where
  pub digits : is_pin (pin_in f x) ≡ true
  pub fill : List ℕ
  pub long : length fill ≡ 14
  pub permitted : permits_fill f fill ≡ true
  pub field : x ≡ pin_field f (pin_in f x) fill

-- the fill of a body, and fifteens up to fourteen
abbrev whole : ℕ → List ℕ → List ℕ
whole n rest = drop n rest ++ replicate n 15

length-whole : (n : ℕ) (rest : List ℕ) → length rest ≡ 14 → n ≤ 12 → length (whole n rest) ≡ 14
length-whole n rest len most =
    omega (arith, length-append (drop n rest) (replicate n 15), length-drop n rest, length-replicate {A = ℕ} n 15)

take-whole : (n : ℕ) (rest : List ℕ) → length rest ≡ 14 → n ≤ 12 → take (14 - n) (whole n rest) ≡ drop n rest
take-whole n rest len most = take_at (drop n rest) (replicate n 15) (14 - n) (omega (arith, length-drop n rest))

headed : (c n : ℕ) (rest : List ℕ) → length rest ≡ 14 → n ≤ 12
    → c ∷ n ∷ rest ≡ c ∷ length (take n rest) ∷ take n rest ++ take (14 - length (take n rest)) (whole n rest)
headed c n rest len most =
    let size : length (take n rest) ≡ n = length-take-le n rest (omega arith) in
    rw (size, take-whole n rest len most, take-append-drop n rest) refl

pub some_pin : (f : Format) (x : List ℕ) → length x ≡ 16 → control_fails f x ≡ false → 4 ≤ length_in f x → length_in f x ≤ 12
    → list_all is_decimal (pin_in f x) ≡ true → list_all (is_fill f) (fill_in f x) ≡ true → Fills f x
some_pin f [] len control least most pin fill = absurd (omega arith)
some_pin f (c ∷ []) len control least most pin fill = absurd (omega arith)
some_pin F01 (c ∷ n ∷ rest) len control least most pin fill =
    let size : length (take n rest) ≡ n = length-take-le n rest (omega arith) in
    let body : length rest ≡ 14 = omega arith in
    let first : c ≡ 0 = eqb-true c 0 (not-false (eqb c 0) control) in
    let left : length (drop n rest) ≡ 14 - n = omega (arith, length-drop n rest) in
    record {
      digits = pin_from_facts (take n rest) (omega arith) (omega arith) pin;
      fill = replicate 14 15;
      long = refl;
      permitted = refl;
      field =
          ap₂ (λ (k : ℕ) (r : List ℕ). k ∷ n ∷ r) first (sym (take-append-drop n rest) ∙ ap (λ (t : List ℕ). take n rest ++ t) (all_last (drop n rest) fill ∙ ap (λ (k : ℕ). replicate k 15) left))
          ∙ ap (λ (k : ℕ). 0 ∷ k ∷ take n rest ++ replicate (14 - k) 15) (sym size);
    }
some_pin F47 (c ∷ n ∷ rest) len control least most pin fill =
    let size : length (take n rest) ≡ n = length-take-le n rest (omega arith) in
    let body : length rest ≡ 14 = omega arith in
    let first : c ≡ 3 = eqb-true c 3 (not-false (eqb c 3) control) in
    record {
      digits = pin_from_facts (take n rest) (omega arith) (omega arith) pin;
      fill = whole n rest;
      long = length-whole n rest body most;
      permitted = list_all-append (is_fill F47) (drop n rest) (replicate n 15) fill (list_all-replicate (is_fill F47) n 15 refl);
      field = headed c n rest body most ∙ ap (λ (k : ℕ). k ∷ length (take n rest) ∷ take n rest ++ take (14 - length (take n rest)) (whole n rest)) first;
    }
some_pin F05 (c ∷ n ∷ rest) len control least most pin fill =
    let size : length (take n rest) ≡ n = length-take-le n rest (omega arith) in
    let body : length rest ≡ 14 = omega arith in
    let first : c ≡ 1 = eqb-true c 1 (not-false (eqb c 1) control) in
    record {
      digits = pin_from_facts (take n rest) (omega arith) (omega arith) pin;
      fill = whole n rest;
      long = length-whole n rest body most;
      permitted = list_all-append (is_fill F05) (drop n rest) (replicate n 15) fill (list_all-replicate (is_fill F05) n 15 refl);
      field = headed c n rest body most ∙ ap (λ (k : ℕ). k ∷ length (take n rest) ∷ take n rest ++ take (14 - length (take n rest)) (whole n rest)) first;
    }
some_pin F03 (c ∷ d ∷ rest) len control least most pin fill =
    let x = c ∷ d ∷ rest in
    let n = length_in F03 x in
    let size : length (take n x) ≡ n = length-take-le n x (omega arith) in
    let left : length (drop n x) ≡ 16 - n = omega (arith, length-drop n x) in
    record {
      digits = pin_from_facts (take n x) (omega arith) (omega arith) pin;
      fill = replicate 14 15;
      long = refl;
      permitted = refl;
      field =
          sym (take-append-drop n x) ∙ ap (λ (t : List ℕ). take n x ++ t) (all_last (drop n x) fill ∙ ap (λ (k : ℕ). replicate k 15) left)
          ∙ ap (λ (k : ℕ). take n x ++ replicate (16 - k) 15) (sym size);
    }

-- ---- blocks

length-field : (account : List ℕ) → length account ≡ 12 → (block : ℕ) (f : Format) → length (mixed f account (nibbles_of block)) ≡ 16
length-field account len block f = length-mixed f account (nibbles_of block) len (length-nibbles_of block)

-- the PIN's field is what is left when the account is taken out
pub field_of_block : (f : Format) (pin account fill : List ℕ) (block : ℕ) → length account ≡ 12 → is_pin pin ≡ true → length fill ≡ 14
    → Block f pin account fill block → mixed f account (nibbles_of block) ≡ pin_field f pin fill
field_of_block f pin account fill block len h long b =
    ap (mixed f account) b.nibbles ∙ mixed-mixed f account (pin_field f pin fill) len (length-pin_field f pin fill h long)

pub holds_shows : (f : Format) (pin account : List ℕ) (block : ℕ) → IsAccount account → HoldsPin f pin account block → Shows f pin (mixed f account (nibbles_of block))
holds_shows f pin account block a h =
    let e = field_of_block f pin account h.fill block a.long h.digits h.long h.made in
    let P : List ℕ → Type 0 = λ x. Shows f pin x in
    subst P (sym e) (field_shows f pin h.fill h.digits h.permitted)

pub holds_one_pin : HoldsOnePin
holds_one_pin f p q account block a h k =
    sym (holds_shows f p account block a h).pin_is ∙ (holds_shows f q account block a k).pin_is

pub has_no_fault : HasNoFault
has_no_fault f pin account block a h = no_fault f pin (mixed f account (nibbles_of block)) h.digits (holds_shows f pin account block a h)

-- nibbles that are a PIN's field are those of a block that holds it
pub holds_from_fills : (f : Format) (account : List ℕ) (block : ℕ) → IsAccount account → block < 2 ^ 64
    → Fills f (mixed f account (nibbles_of block)) → HoldsPin f (pin_in f (mixed f account (nibbles_of block))) account block
holds_from_fills f account block a small k =
    record {
      digits = k.digits;
      fill = k.fill;
      long = k.long;
      permitted = k.permitted;
      made = record {
        size = small;
        nibbles = sym (mixed-mixed f account (nibbles_of block) a.long (length-nibbles_of block)) ∙ ap (mixed f account) k.field;
      };
    }

length_from_fault : (n : ℕ) → not (leb 4 n && leb n 12) ≡ false → (4 ≤ n) × (n ≤ 12)
length_from_fault n h =
    let parts = and_parts (leb 4 n) (leb n 12) (not-false (leb 4 n && leb n 12) h) in (leb-true 4 n parts.0, leb-true n 12 parts.1)

pub holds_some_pin : HoldsSomePin
holds_some_pin f account block a small h =
    let x = mixed f account (nibbles_of block) in
    let passed = none_from_fault f x h in
    let size = length_from_fault (length_in f x) passed.1 in
    let body = and_parts (list_all is_decimal (pin_in f x)) (list_all (is_fill f) (fill_in f x)) (not-false (list_all is_decimal (pin_in f x) && list_all (is_fill f) (fill_in f x)) passed.2) in (
      pin_in f x,
      holds_from_fills f account block a small
          (some_pin f x (length-field account a.long block f) passed.0 size.0 size.1 body.0 body.1),
    )

pub is_pin_of_block : IsPinOfBlock
unfolding pin_of_block
is_pin_of_block f pin account block a h = (holds_shows f pin account block a h).pin_is

one_or_fault : (f : Format) (account : List ℕ) (block : ℕ) → IsAccount account → block < 2 ^ 64 → (o : Option BlockFault) → blockfault f block account ≡ o
    → HoldsExactlyOne f account block ⊎ HasFault f account block
one_or_fault f account block a small None e =
    let some = holds_some_pin f account block a small e in
    inl (record {
      pin = some.0;
      holds = some.1;
      only = λ other h. holds_one_pin f other some.0 account block a h some.1;
      no_fault = e;
    })
one_or_fault f account block a small (Some fault) e =
    inr (record { fault = fault; first = e; no_pin = λ pin h. let none = has_no_fault f pin account block a h in cc })

pub one_pin_or_fault : OnePinOrFault
one_pin_or_fault f account block a small = one_or_fault f account block a small (blockfault f block account) refl

pub opens_again : OpensAgain
opens_again set pin account text a s =
    let e : opened_block set text ≡ s.clear =
    ap (deciphered (lmk_pair set 1)) s.sealed ∙ deciphered-enciphered (lmk_pair set 1) s.clear s.holds.made.size in
    let P : ℕ → Type 0 = λ block. HoldsPin F01 pin account block in
    let holds = subst P (sym e) s.holds in
    record {
      holds = holds;
      no_fault = has_no_fault F01 pin account (opened_block set text) a holds;
      shown = is_pin_of_block F01 pin account (opened_block set text) a holds;
    }

-- ---- what build and read do

pub field_below : (f : Format) (pin account fill : List ℕ) → is_pin pin ≡ true → list_all is_decimal account ≡ true → permits_fill f fill ≡ true
    → AllBelowBase 16 (mixed f account (pin_field f pin fill))
field_below f pin account fill h a k = mixed-below f account (pin_field f pin fill) a (pin_field-below f pin fill h k)

pub field_block : (f : Format) (pin account fill : List ℕ) → is_pin pin ≡ true → IsAccount account → length fill ≡ 14 → permits_fill f fill ≡ true
    → Block f pin account fill (block_of (mixed f account (pin_field f pin fill)))
field_block f pin account fill h a long k =
    let x = mixed f account (pin_field f pin fill) in
    let size = length-mixed f account (pin_field f pin fill) a.long (length-pin_field f pin fill h long) in
    let below = field_below f pin account fill h a.decimal k in
    record { size = block_of-lt x size below; nibbles = nibbles_of-block_of x size below }

pub at_block : (f : Format) (account : List ℕ) (block : ℕ) (ns x : List ℕ) (o : Option BlockFault)
    → ns ≡ nibbles_of block → x ≡ mixed f account ns → field_fault f x ≡ o → blockfault f block account ≡ o
at_block f account block ns x o d e h =
    ap (λ (ys : List ℕ). field_fault f (mixed f account ys)) (sym d) ∙ ap (field_fault f) (sym e) ∙ h

pub length_at : (f : Format) (account : List ℕ) (block : ℕ) (ns x : List ℕ) → length account ≡ 12 → ns ≡ nibbles_of block → x ≡ mixed f account ns → length x ≡ 16
length_at f account block ns x len d e =
    ap length e ∙ ap (λ (ys : List ℕ). length (mixed f account ys)) d ∙ length-mixed f account (nibbles_of block) len (length-nibbles_of block)

-- a length of which `is_pin_length` tells
pub record PinLength (n : ℕ) : Type 0 where
  pub least : 4 ≤ n
  pub most : n ≤ 12

pub pin_length : (n m : ℕ) (b : Bool) → n ≡ m → b ≡ (leb 4 n && leb n 12) → b ≡ true → PinLength m
pin_length n m b e h t =
    let parts = and_parts (leb 4 n) (leb n 12) (sym h ∙ t) in
    let least = leb-true 4 n parts.0 in
    let most = leb-true n 12 parts.1 in
    record { least = omega arith; most = omega arith }

pub length_fails_from : (f : Format) (x : List ℕ) (n : ℕ) (b : Bool) → n ≡ length_in f x → b ≡ (leb 4 n && leb n 12) → b ≡ false → length_fails f x ≡ true
length_fails_from f x n b e h t = ap (λ (k : ℕ). not (leb 4 k && leb k 12)) (sym e) ∙ ap not (sym h ∙ t)

pub body_fails_digits : (f : Format) (x : List ℕ) → list_all is_decimal (pin_in f x) ≡ false → body_fails f x ≡ true
body_fails_digits f x h = rw h refl

pub body_fails_fill : (f : Format) (x : List ℕ) → list_all is_decimal (pin_in f x) ≡ true → list_all (is_fill f) (fill_in f x) ≡ false → body_fails f x ≡ true
body_fails_fill f x h k = rw (h, k) refl

pub read_holds : (f : Format) (account : List ℕ) (block : ℕ) (ns x pin : List ℕ) → IsAccount account → block < 2 ^ 64
    → ns ≡ nibbles_of block → x ≡ mixed f account ns → Fills f x → pin ≡ pin_in f x → HoldsPin f pin account block
read_holds f account block ns x pin a small d e k p =
    let clear : x ≡ mixed f account (nibbles_of block) = e ∙ ap (mixed f account) d in
    let F : List ℕ → Type 0 = λ ys. Fills f ys in
    let H : List ℕ → Type 0 = λ q. HoldsPin f q account block in
    subst H (sym (p ∙ ap (pin_in f) clear)) (holds_from_fills f account block a small (subst F clear k))

-- what `Pin::of` tells of the digits
pub is_pin_from_some : (digits pin : List ℕ) (o : Option (List ℕ)) → o ≡ cond (is_pin digits) (Some digits) None → o ≡ Some pin → (is_pin digits ≡ true) × (pin ≡ digits)
is_pin_from_some digits pin o e h = told (is_pin digits) (sym e ∙ h)
  where
    told : (b : Bool) → cond b (Some digits) None ≡ Some pin → (b ≡ true) × (pin ≡ digits)
    told true k = (refl, cc)
    told false k = cc

pub no_pin_from_none : (digits : List ℕ) (o : Option (List ℕ)) → o ≡ cond (is_pin digits) (Some digits) None → o ≡ None → is_pin digits ≡ false
no_pin_from_none digits o e h = told (is_pin digits) (sym e ∙ h)
  where
    told : (b : Bool) → cond b (Some digits) None ≡ None → b ≡ false
    told true k = cc
    told false k = refl

length-body_in : (f : Format) (x : List ℕ) → length x ≡ 16 → 14 ≤ length (body_in f x)
length-body_in F01 x h = omega (arith, length-drop 2 x)
length-body_in F47 x h = omega (arith, length-drop 2 x)
length-body_in F05 x h = omega (arith, length-drop 2 x)
length-body_in F03 x h = omega arith

-- digits of a permitted length that are no PIN aren't all decimal
pub not_decimal : (f : Format) (x : List ℕ) → length x ≡ 16 → 4 ≤ length_in f x → length_in f x ≤ 12 → is_pin (pin_in f x) ≡ false → list_all is_decimal (pin_in f x) ≡ false
not_decimal f x len least most h =
    let size : length (pin_in f x) ≡ length_in f x = length-take-le (length_in f x) (body_in f x) (omega (arith, length-body_in f x len)) in
    rw (le-leb 4 (length (pin_in f x)) (omega arith), le-leb (length (pin_in f x)) 12 (omega arith)) at h
