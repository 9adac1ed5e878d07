-- Which rule a document breaks first.
use Rattle.std.proofs.Common.{◌≡◌, ◌+◌, ◌<◌, ℕ, Bool, true, false, not, List, [], ◌∷◌, get_or, Some, None, refl, inl, inr}
use Rattle.std.specs.List.{list_all, position_from}
use Rattle.std.proofs.lemmas.Bool.{cases_Bool}
use Rattle.std.proofs.lemmas.List.Folds.{list_all_at}
use Rattle.toml.specs.Data.{Members}
use Rattle.hsm_config.specs.Rules.{first_broken, version_1, has_known_keys, has_version, has_header, has_officers, has_pairs, has_odd_pairs, has_console_port, has_host_ports, has_different_ports, has_accept}

-- the rules before this one hold, and it is broken.
pub breaks_1 : (d : Members) → has_known_keys d ≡ false → first_broken d ≡ Some 1
unfolding first_broken
breaks_1 d r1 = rw r1 refl

pub breaks_2 : (d : Members) → has_known_keys d ≡ true → has_version d ≡ false → first_broken d ≡ Some 2
unfolding first_broken
breaks_2 d r1 r2 = rw (r1, r2) refl

pub breaks_3 : (d : Members) → has_known_keys d ≡ true → has_version d ≡ true → has_header d ≡ false → first_broken d ≡ Some 3
unfolding first_broken
breaks_3 d r1 r2 r3 = rw (r1, r2, r3) refl

pub breaks_4 : (d : Members) → has_known_keys d ≡ true → has_version d ≡ true → has_header d ≡ true → has_officers d ≡ false
    → first_broken d ≡ Some 4
unfolding first_broken
breaks_4 d r1 r2 r3 r4 = rw (r1, r2, r3, r4) refl

pub breaks_5 : (d : Members) → has_known_keys d ≡ true → has_version d ≡ true → has_header d ≡ true → has_officers d ≡ true
    → has_pairs d ≡ false → first_broken d ≡ Some 5
unfolding first_broken
breaks_5 d r1 r2 r3 r4 r5 = rw (r1, r2, r3, r4, r5) refl

pub breaks_6 : (d : Members) → has_known_keys d ≡ true → has_version d ≡ true → has_header d ≡ true → has_officers d ≡ true
    → has_pairs d ≡ true → has_odd_pairs d ≡ false → first_broken d ≡ Some 6
unfolding first_broken
breaks_6 d r1 r2 r3 r4 r5 r6 = rw (r1, r2, r3, r4, r5, r6) refl

pub breaks_7 : (d : Members) → has_known_keys d ≡ true → has_version d ≡ true → has_header d ≡ true → has_officers d ≡ true
    → has_pairs d ≡ true → has_odd_pairs d ≡ true → has_console_port d ≡ false → first_broken d ≡ Some 7
unfolding first_broken
breaks_7 d r1 r2 r3 r4 r5 r6 r7 = rw (r1, r2, r3, r4, r5, r6, r7) refl

pub breaks_8 : (d : Members) → has_known_keys d ≡ true → has_version d ≡ true → has_header d ≡ true → has_officers d ≡ true
    → has_pairs d ≡ true → has_odd_pairs d ≡ true → has_console_port d ≡ true → has_host_ports d ≡ false → first_broken d ≡ Some 8
unfolding first_broken
breaks_8 d r1 r2 r3 r4 r5 r6 r7 r8 = rw (r1, r2, r3, r4, r5, r6, r7, r8) refl

pub breaks_9 : (d : Members) → has_known_keys d ≡ true → has_version d ≡ true → has_header d ≡ true → has_officers d ≡ true
    → has_pairs d ≡ true → has_odd_pairs d ≡ true → has_console_port d ≡ true → has_host_ports d ≡ true
    → has_different_ports d ≡ false → first_broken d ≡ Some 9
unfolding first_broken
breaks_9 d r1 r2 r3 r4 r5 r6 r7 r8 r9 = rw (r1, r2, r3, r4, r5, r6, r7, r8, r9) refl

pub breaks_10 : (d : Members) → has_known_keys d ≡ true → has_version d ≡ true → has_header d ≡ true → has_officers d ≡ true
    → has_pairs d ≡ true → has_odd_pairs d ≡ true → has_console_port d ≡ true → has_host_ports d ≡ true
    → has_different_ports d ≡ true → has_accept d ≡ false → first_broken d ≡ Some 10
unfolding first_broken
breaks_10 d r1 r2 r3 r4 r5 r6 r7 r8 r9 r10 = rw (r1, r2, r3, r4, r5, r6, r7, r8, r9, r10) refl

-- every rule holds
pub breaks_none : (d : Members) → has_known_keys d ≡ true → has_version d ≡ true → has_header d ≡ true → has_officers d ≡ true
    → has_pairs d ≡ true → has_odd_pairs d ≡ true → has_console_port d ≡ true → has_host_ports d ≡ true
    → has_different_ports d ≡ true → has_accept d ≡ true → first_broken d ≡ None
unfolding first_broken
breaks_none d r1 r2 r3 r4 r5 r6 r7 r8 r9 r10 = rw (r1, r2, r3, r4, r5, r6, r7, r8, r9, r10) refl

all_hold : (d : Members) (rules : List (Members → Bool)) (i : ℕ) → position_from (λ rule. not (rule d)) i rules ≡ None → list_all (λ rule. rule d) rules ≡ true
all_hold d [] i none = refl
all_hold d (rule ∷ rules) i none =
    elim (cases_Bool (rule d)) [
      | inl holds ↦ rw holds (all_hold d rules (i + 1) (rw holds at none))
      | inr fails ↦ absurd (cc (rw fails at none))
    ]

-- each rule holds where none is the first broken
pub rule_holds : (d : Members) (k : ℕ) → k < 10 → first_broken d ≡ None → (get_or version_1 k has_known_keys) d ≡ true
unfolding first_broken
rule_holds d k within none =
    let all = all_hold d version_1 1 none in
    elim (cases_Bool ((get_or version_1 k has_known_keys) d)) [
      | inl holds ↦ holds
      | inr fails ↦ absurd (cc (all, list_all_at (λ (rule : Members → Bool). rule d) version_1 k has_known_keys within fails))
    ]
