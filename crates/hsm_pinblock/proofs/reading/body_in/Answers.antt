use Rattle.std.proofs.Common.{◌≡◌, ◌≤◌, ◌⊎◌, inl, inr, ℕ, List, take_all, length-drop, arith, length, drop}
use Rattle.hsm_pinblock.specs.Faults.{body_in}
use Rattle.hsm_pinblock.specs.declared.Format.{Format}
use Rattle.hsm_pinblock.specs.declared.Format.TheVariants.{F01, F05, F47}
use Rattle.hsm_pinblock.proofs.reading.body_in.Goals as goal

after_two : (f : Format) (x part : List ℕ) → part ≡ drop 2 x → (f ≡ F01) ⊎ ((f ≡ F47) ⊎ (f ≡ F05)) → part ≡ body_in f x
after_two f x part h which = elim which [
  | inl e ↦ rw e h
  | inr other ↦ elim other [ inl e ↦ rw e h | inr e ↦ rw e h ]
]

pub returns-in-F01 : goal.returns-in-F01
returns-in-F01 c =
    let short : length (drop 2 c.args.nibbles.now) ≤ 14 = omega (arith, length-drop 2 c.args.nibbles.now) in
    after_two c.args.format c.args.nibbles.now _ (take_all 14 (drop 2 c.args.nibbles.now) short) c.in-F01.is
