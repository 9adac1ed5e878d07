-- What an ask leaves that ends and gives nothing, and what one leaves that ends grants.
use Rattle.std.proofs.Common.{◌≡◌, ℕ, ◌+◌, ◌-◌, ◌%◌, ◌<◌, ◌≤◌, true, not, List, [], ◌++◌, length, filter, refl, sym, ◌∙◌, arith, append-nil}
use Rattle.std.proofs.lemmas.List.Filters.{length-filter_both}
use Rattle.std.proofs.lemmas.List.Sums.{length-filter, count_by-le-length}
use Rattle.hsm_auth.specs.declared.activity.Activity.{Activity}
use Rattle.hsm_auth.specs.declared.entry.Grant.{Grant}
use Rattle.hsm_auth.specs.Activities.{same_activity}
use Rattle.hsm_auth.specs.History.{same_count, other_count}
use Rattle.hsm_auth.proofs.Filters.{filter-true, filter-false}

pub all-stay : (gs : List Grant) → gs ≡ filter (λ (g : Grant). true) gs ++ []
all-stay gs = sym (append-nil (filter (λ (g : Grant). true) gs) ∙ filter-true gs)

pub none-stay : (gs : List Grant) → [] ≡ filter (λ (g : Grant). not true) gs ++ []
none-stay gs = sym (append-nil (filter (λ (g : Grant). not true) gs) ∙ filter-false gs)

pub place-stays : (p : ℕ) → p < 9223372036854775808 → p ≡ (p + 0) % 9223372036854775808
place-stays p small = omega arith

-- the grants of other activities
abbrev pub others : Activity → List Grant → List Grant
others a gs = filter (λ (g : Grant). not (same_activity a g.activity)) gs

pub length-others : (a : Activity) (gs : List Grant) → length (others a gs) ≡ other_count a gs
length-others a gs = length-filter (λ (g : Grant). not (same_activity a g.activity)) gs

pub length-others_le : (a : Activity) (gs : List Grant) → length (others a gs) ≤ length gs
length-others_le a gs = let e = length-others a gs in let l = count_by-le-length (λ (g : Grant). not (same_activity a g.activity)) gs in omega arith

-- how many go
pub count-gone : (a : Activity) (gs : List Grant) → length gs - length (others a gs) ≡ same_count a gs
count-gone a gs =
    let both : length (filter (λ (g : Grant). same_activity a g.activity) gs) + length (others a gs) ≡ length gs = length-filter_both (λ (g : Grant). same_activity a g.activity) (λ (g : Grant). not (same_activity a g.activity)) (λ g. refl) gs in
    let same = length-filter (λ (g : Grant). same_activity a g.activity) gs in
    omega arith
