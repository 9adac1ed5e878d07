-- The entries of one number, as passes book, are split and meet.
use Rattle.std.proofs.Common.{◌≡◌, ℕ, zero, ◌+◌, ◌*◌, ◌<◌, List, [], ◌∷◌, ◌++◌, length, Some, slice_get, refl, sym, ap, ◌∙◌, subst, arith, mod-eq_of_lt, length-append}
use Rattle.hsm_auth.specs.declared.entry.Ask.{Ask}
use Rattle.hsm_auth.specs.declared.entry.Granted.{Granted}
use Rattle.hsm_auth.specs.declared.entry.Entry.{Entry}
use Rattle.hsm_auth.specs.History.{entry}
use Rattle.hsm_auth.specs.Own.{own}
use Rattle.hsm_auth.proofs.OwnEntries.{own-others, own-push}
use Rattle.hsm_desk.specs.Kin.{Spans, IsKin, IsSound, Grows, first_pair, new_kin}
use Rattle.hsm_desk.specs.Passes.{PassView, Sound, IsWhole, OnlyKin, Books, OwnBooked, Meets, KeepsOwn, number}
use Rattle.hsm_desk.proofs.Histories.{get_back}
use Rattle.hsm_desk.proofs.Kins.{own_spans, first_there, new_spans}

-- what is added by entries that a kin does not cover has none of a number that it covers
own_grows : (kin : List (ℕ × ℕ)) (was more : List Entry) (j n : ℕ) (p : ℕ × ℕ) → Grows kin was (was ++ more) → slice_get kin j ≡ Some p → Spans p n → own n (was ++ more) ≡ own n was
own_grows kin was more j n p grows is cover = own-others n was more (λ k e at same.
    grows.apart (length was + k) e (omega arith) (get_back was more e k at) j p is (subst (Spans p) (sym same) cover))

pub own_booked : (p q : PassView) (moment : ℕ) (ask : Ask) (granted : Granted) (place : ℕ) → Sound p → Books p q moment ask granted place → OwnBooked p q moment ask granted place
own_booked p q moment ask granted place sound b =
    let n : ℕ = number p in
    let e : Entry = entry n moment ask granted in
    let before : List Entry = p.seen ++ b.others in
    let kept = own_grows p.kin p.seen b.others 0 n (first_pair p.kin) b.apart (first_there p.kin sound.first) (own_spans p.kin sound.first sound.pairs) in
    let here : length before ≡ place = length-append p.seen b.others ∙ sym b.stands in
    ap (own n) b.seen ∙ (own-push n before e refl ∙ (λ i. kept i ++ (here i, e) ∷ []))

keeps_own : (p q : PassView) → IsKin p.kin → Grows p.kin p.seen q.seen → KeepsOwn p q
keeps_own p q pairs grows j n at =
    let more : List Entry = grows.begins.0 in
    let all : p.seen ++ more ≡ q.seen = grows.begins.1 in
    let cover : Spans n n.0 = mod-eq_of_lt (pairs j n at).below in
    ap (own n.0) (sym all) ∙ own_grows p.kin p.seen more j n.0 n (subst (Grows p.kin p.seen) (sym all) grows) at cover

pub keeps_both : (p other q : PassView) → Sound p → Sound other → Meets p other q → KeepsOwn p q × KeepsOwn other q
keeps_both p other q sound sound' meets = (keeps_own p q sound.pairs meets.mine, keeps_own other q sound'.pairs meets.theirs)

-- the number of a new pass stands in no entry
pub unused : (seen : List Entry) (kin : List (ℕ × ℕ)) → IsSound seen kin → own (first_pair (new_kin kin)).0 seen ≡ []
unused seen [] sound = absurd (cc (sound.first.2))
unused seen (q ∷ qs) sound =
    let below : q.0 < q.1 = (sound.pairs zero q refl).below in
    own-others (q.0 + q.1) [] seen (λ k e at same.
    let cover : Spans (q.0 + q.1, 2 * q.1) e.pass = subst (Spans (q.0 + q.1, 2 * q.1)) (sym same) (mod-eq_of_lt (omega arith)) in
    let old = new_spans q e.pass below cover in
    old.1 (sound.own k e at zero q refl old.0))

-- a whole pass has seen entries of the numbers of its kin alone
pub only_kin : (p : PassView) → Sound p → IsWhole p → OnlyKin p
only_kin p sound all k e at = let w = all e.pass in (w.0, w.1, w.2, sound.own k e at w.0 w.1 w.2 w.3)
