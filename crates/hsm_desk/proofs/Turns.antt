-- Each step on a word keeps the rule.
use Rattle.std.proofs.Common.{◌≡◌, ◌≢◌, ◌⊎◌, ℕ, zero, suc, ◌+◌, ◌%◌, ◌^◌, ◌<◌, ◌≤◌, List, [], ◌∷◌, ◌++◌, length, set, Option, Some, slice_get, refl, sym, ap, ap₂, ◌∙◌, subst, inl, inr, ⊎_elim, arith, mod-eq_of_lt, length-append, leb-true, leb-false}
use Rattle.std.specs.Prelude.{slice_index, slice_set, Bool, true, false, cond, eqb, leb}
use Rattle.std.proofs.lemmas.Option.{slice_get_within}
use Rattle.std.proofs.lemmas.Bool.Decides.{nat_tests}
use mathlib.Core.Logic.{dite}
use native.Mathlib.Decide.{ℕ_discrete}
use mathlib.Core.Option.{some, none, some-injective, some-ne-none}
use mathlib.Core.Option as maybe
use mathlib.Core.List.{IsPrefix}
use lib.ListN.{get_elem?}
use Rattle.atomic_table.specs.Table.{keeps, takes, gives, Allows, Splits, Joins, opening}
use Rattle.atomic_table.proofs.Lists.{at_set, at_snoc, set_again}
use Rattle.hsm_auth.specs.declared.entry.Entry.{Entry}
use Rattle.hsm_auth.specs.History.{IsLegal, StandsFor}
use Rattle.hsm_desk.specs.declared.view.Known.{Known}
use Rattle.hsm_desk.specs.declared.view.View.{View}
use Rattle.hsm_desk.specs.declared.view.InSlot.{InSlot}
use Rattle.hsm_desk.specs.declared.view.Stage.{Stage}
use Rattle.hsm_desk.specs.declared.view.Stage.TheVariants.{Idle, Waiting, Turn, Met}
use Rattle.hsm_desk.specs.Totals.{total, one_if, between}
use Rattle.hsm_desk.specs.Kin.{Spans, spanning, part, IsPair, IsKin, IsCons, first_pair, Knows, Owns, Grows, IsPartOf}
use Rattle.hsm_desk.specs.Rule.{knowing, viewed, waits_at, ticket_at, turn_at, waits, has_ticket, has_turn, pairs_spanning, weight, AtStage, Stands, Kept, Ruled, first_view, Draws, Awaits, entry_by, Enters, Learns, left, right, longer, met, spent}
use Rattle.hsm_desk.proofs.Totals.{total_set, total_push, total_append, total_member, total_two, total_none, total_le, between_more, between_less, between_one, one_same}
use Rattle.hsm_desk.proofs.Histories.{prefix_self, prefix_push, get_push, get_append, get_front, get_back}
use Rattle.hsm_desk.proofs.Kins.{kept_counts, kept_weight, kept_are, new_are, kept_knows, new_knows, counts, own_counts, own_pair, weighs}

-- the views after one of them changed
each_set : (log : List Entry) (views : List View) (id : ℕ) (w : View) → ((j : ℕ) (u : View) → j ≢ id → get_elem? views j ≡ some u → Stands log u) → Stands log w → (j : ℕ) (u : View) → get_elem? (set views id w) j ≡ some u → Stands log u
each_set log views id w others mine j u e =
    ⊎_elim
    (λ (x : (j ≡ id) × (w ≡ u)). subst (Stands log) x.1 mine)
    (λ (x : (j ≢ id) × (get_elem? views j ≡ some u)). others j u x.0 x.1)
    (at_set views id j w u e)

waits_le : (log : List Entry) (known : Known) (stage : Stage) → IsKin known.kin → AtStage log known stage → waits_at stage ≤ total part known.kin
waits_le log known Idle pairs at = omega arith
waits_le log known (Waiting t) pairs at = weighs known.kin at pairs
waits_le log known (Turn t) pairs at = weighs known.kin at.2 pairs
waits_le log known (Met a b) pairs at = omega arith

module _ (words : List ℕ) (homes : List (maybe.Option (Option InSlot))) (views : List View) (log : List Entry) (kept : Kept words homes views log) where
  -- fewer seats than 2 ^ 62 wait
  waits_few : total waits views ≤ 4611686018427387904
  waits_few = let le = total_le waits weight views (λ j u at. let h = kept.each j u at in waits_le log u.known u.stage h.pairs h.stage) in let e = kept.weighed in omega arith

  served_is : slice_index words 0 ≡ length log
  served_is = ap (λ (ws : List ℕ). slice_index ws 0) kept.words_are

  tickets_is : slice_index words 1 ≡ length log + total waits views
  tickets_is = ap (λ (ws : List ℕ). slice_index ws 1) kept.words_are

pub draws : (id : ℕ) (known : Known) → IsCons known.kin → Allows Ruled 1 id (viewed known Idle, []) 1 (λ n. (n + 1) % 2 ^ 64) (Draws (viewed known Idle, []))
draws id known cons s r len at fits =
    let log : List Entry = r.0 in
    let kept = r.1 in
    let v : View = viewed known Idle in
    let n : ℕ = slice_index s.words 1 in
    let w : View = viewed known (Waiting n) in
    let was = kept.each id v at in
    let few = waits_few s.words s.homes s.views log kept in
    let L : ℕ = length log in
    let T : ℕ = total waits s.views in
    let T' : ℕ = total waits (set s.views id w) in
    let found : n ≡ L + T = tickets_is s.words s.homes s.views log kept in
    let more : T' + 0 ≡ T + 1 = total_set waits s.views id v w at in
    let small : L ≤ 4611686018427387904 = kept.small in
    let last : (n + 1) % 18446744073709551616 ≡ L + T' = mod-eq_of_lt (omega arith) ∙ (let h : n + 1 ≡ L + T' = omega arith in h) in
    let further : L + T' ≡ L + T + 1 = omega arith in (
      w,
      keeps,
      tt,
      (
        log,
        record {
          words_are = ap (λ (ws : List ℕ). slice_set ws 1 ((n + 1) % 18446744073709551616)) kept.words_are ∙ ap (λ (k : ℕ). L ∷ k ∷ []) last;
          small = kept.small;
          legal = kept.legal;
          tickets = λ t.
              let a = total_set (has_ticket t) s.views id v w at in
              let b = kept.tickets t in
              let c = between_more L T t in
              let d : between L (L + T') t ≡ between L (L + T + 1) t = ap (λ (k : ℕ). between L k t) further in
              let e : one_if (eqb n t) ≡ one_if (eqb (L + T) t) = ap (λ (k : ℕ). one_if (eqb k t)) found in
              omega arith;
          slot = λ none. kept.slot (let a = total_set has_turn s.views id v w at in omega arith);
          covered = λ x. let a = total_set (pairs_spanning x) s.views id v w at in let b = kept.covered x in omega arith;
          weighed = let a = total_set weight s.views id v w at in let b = kept.weighed in omega arith;
          each = each_set log s.views id w (λ j u _ e. kept.each j u e) record { fits = was.fits; pairs = was.pairs; stage = cons };
        },
      ),
      refl,
    )

-- where a seat waits with the ticket that is served, nobody has the turn
nobody : (words : List ℕ) (homes : List (maybe.Option (Option InSlot))) (views : List View) (log : List Entry) → Kept words homes views log → (id : ℕ) (known : Known) (t : ℕ) → get_elem? views id ≡ some (viewed known (Waiting t)) → t ≡ length log → total has_turn views ≡ 0
nobody words homes views log kept id known t at served = total_none has_turn views (λ j u there. dite (ℕ_discrete j id)
    (λ (same : j ≡ id). let both : some u ≡ some (viewed known (Waiting t)) = sym there ∙ (ap (λ (k : ℕ). get_elem? views k) same ∙ at) in ap has_turn (some-injective u (viewed known (Waiting t)) both))
    (λ (apart : j ≢ id). idle j u.known u.stage apart there (kept.each j u there).stage))
  where
    idle : (j : ℕ) (known' : Known) (stage : Stage) → j ≢ id → get_elem? views j ≡ some (viewed known' stage) → AtStage log known' stage → turn_at stage ≡ 0
    idle j known' Idle apart there st = refl
    idle j known' (Waiting x) apart there st = refl
    idle j known' (Turn x) apart there st =
        let two = total_two (has_ticket t) views id j (viewed known (Waiting t)) (viewed known' (Turn x)) apart at there in
        let mine : has_ticket t (viewed known (Waiting t)) ≡ 1 = one_same t in
        let theirs : has_ticket t (viewed known' (Turn x)) ≡ 1 = ap (λ (k : ℕ). one_if (eqb k t)) (st.0 ∙ sym served) ∙ one_same t in
        let count = kept.tickets t in
        let few = between_one (length log) (length log + total waits views) t in
        absurd (omega arith)
    idle j known' (Met a b) apart there st = refl

-- the whole history is more than what was seen by entries that the kin does not cover
grows : (log : List Entry) (known : Known) → IsPartOf log known → Grows known.kin known.seen log
grows log known fits = record { begins = fits.begins; apart = λ k e far at j p is cover. absurd (let near = (fits.knows k e at j p is cover).1 in omega arith) }

-- who has seen the whole history
whole : (log : List Entry) (known : Known) → IsPartOf log known → IsPartOf log (knowing log known.kin)
whole log known fits = record { begins = prefix_self log; knows = λ k e at j p is cover. ((fits.knows k e at j p is cover).0, slice_get_within log k e at) }

pub awaits : (id : ℕ) (known : Known) (t : ℕ) → Allows Ruled 1 id (viewed known (Waiting t), []) 0 (λ n. n) (Awaits (viewed known (Waiting t), []))
awaits id known t s r len at fits =
    let log : List Entry = r.0 in
    let kept = r.1 in
    let v : View = viewed known (Waiting t) in
    let n : ℕ = slice_index s.words 0 in
    let was = kept.each id v at in
    let L : ℕ = length log in
    let T : ℕ = total waits s.views in
    let found : n ≡ L = served_is s.words s.homes s.views log kept in
    let same : slice_set s.words 0 n ≡ s.words = ap (λ (ws : List ℕ). slice_set ws 0 n) kept.words_are ∙ (ap (λ (k : ℕ). k ∷ (L + T) ∷ []) found ∙ sym kept.words_are) in
    dite (ℕ_discrete n t)
    (λ (e : n ≡ t).
    let w : View = viewed (knowing log known.kin) (Turn t) in
    let T' : ℕ = total waits (set s.views id w) in
    let stays : T' ≡ T = let a = total_set waits s.views id v w at in omega arith in
    let free = nobody s.words s.homes s.views log kept id known t at (sym e ∙ found) in
    let x = kept.slot free in
    let y : InSlot = x.0 in (
      w,
      takes 0 (Some y),
      ap (λ (hs : List (maybe.Option (Option InSlot))). get_elem? hs 0) x.1,
      (
        log,
        record {
          words_are = same ∙ (kept.words_are ∙ ap (λ (k : ℕ). L ∷ (L + k) ∷ []) (sym stays));
          small = kept.small;
          legal = kept.legal;
          tickets = λ z.
              let a = total_set (has_ticket z) s.views id v w at in
              let b = kept.tickets z in
              let c : between L (L + T') z ≡ between L (L + T) z = ap (λ (k : ℕ). between L (L + k) z) stays in
              omega arith;
          slot = λ none. absurd (let a = total_set has_turn s.views id v w at in omega arith);
          covered = λ z. let a = total_set (pairs_spanning z) s.views id v w at in let b = kept.covered z in omega arith;
          weighed = let a = total_set weight s.views id v w at in let b = kept.weighed in omega arith;
          each = each_set log s.views id w (λ j u _ e'. kept.each j u e') record { fits = whole log known was.fits; pairs = was.pairs; stage = (sym e ∙ found, refl, was.stage) };
        },
      ),
      (
        (λ _. record { stage = refl; kin = refl; grows = grows log known was.fits; place = sym found ∙ e; legal = kept.legal; slot = (y, refl, x.2) }),
        (λ ne. absurd (ne e)),
      ),
    ))
    (λ (ne : n ≢ t). (
      v,
      keeps,
      tt,
      subst Ruled (λ i. record { words = sym same i; homes = s.homes; views = sym (set_again s.views id v at) i }) r,
      ((λ e. absurd (ne e)), (λ _. refl)),
    ))

one_home : {A : Type 0} (hs : List (maybe.Option A)) (y : A) → length hs ≡ 1 → slice_set hs 0 (some y) ≡ some y ∷ []
one_home [] y len = absurd (omega arith)
one_home (h ∷ []) y len = refl
one_home (h ∷ k ∷ hs) y len = absurd (omega arith)

-- a kin that does not cover the new entry's number knows as before
knows_push : (log seen : List Entry) (kin : List (ℕ × ℕ)) (e : Entry) → Knows log seen kin → ((j : ℕ) (p : ℕ × ℕ) → slice_get kin j ≡ Some p → ¬ Spans p e.pass) → Knows (log ++ e ∷ []) seen kin
knows_push log seen kin e knows apart k x at j p is cover = ⊎_elim
    (λ (l : slice_get log k ≡ Some x). knows k x l j p is cover)
    (λ (r : (k ≡ length log) × (e ≡ x)). absurd (apart j p is (subst (λ (z : Entry). Spans p z.pass) (sym r.1) cover)))
    (get_push log e x k at)

fits_push : (log : List Entry) (known : Known) (e : Entry) → IsPartOf log known → ((j : ℕ) (p : ℕ × ℕ) → slice_get known.kin j ≡ Some p → ¬ Spans p e.pass) → IsPartOf (log ++ e ∷ []) known
fits_push log known e fits apart = record { begins = prefix_push known.seen log e fits.begins; knows = knows_push log known.seen known.kin e fits.knows apart }

-- another seat, as an entry is made whose number it does not cover, while it does not have the turn
stands_push : (log : List Entry) (e : Entry) (known : Known) (stage : Stage) → turn_at stage ≡ 0 → ((j : ℕ) (p : ℕ × ℕ) → slice_get known.kin j ≡ Some p → ¬ Spans p e.pass) → Stands log (viewed known stage) → Stands (log ++ e ∷ []) (viewed known stage)
stands_push log e known Idle idle apart st = record { fits = fits_push log known e st.fits apart; pairs = st.pairs; stage = tt }
stands_push log e known (Waiting t) idle apart st = record { fits = fits_push log known e st.fits apart; pairs = st.pairs; stage = st.stage }
stands_push log e known (Turn t) idle apart st = absurd (omega arith)
stands_push log e known (Met a b) idle apart st =
    let at = st.stage in record {
      fits = fits_push log known e st.fits apart;
      pairs = st.pairs;
      stage = (
        fits_push log a e at.0 (λ j p is. apart j p (subst (λ (kin : List (ℕ × ℕ)). slice_get kin j ≡ Some p) (sym at.2) (get_front a.kin b.kin p j is))),
        fits_push log b e at.1 (λ j p is. apart (length a.kin + j) p (subst (λ (kin : List (ℕ × ℕ)). slice_get kin (length a.kin + j) ≡ Some p) (sym at.2) (get_back a.kin b.kin p j is))),
        at.2,
      );
    }

held_in : InSlot → List (ℕ × Option InSlot) → Option InSlot
held_in x [] = Some x
held_in x (c ∷ cs) = c.1

same_held : (x y : InSlot) → ◌≡◌ {A = List (ℕ × Option InSlot)} ((0, Some x) ∷ []) ((0, Some y) ∷ []) → x ≡ y
unfolding held_in
same_held x y is = let e : Some x ≡ Some y = ap (held_in x) is in cc (e)

set_there : {A : Type 0} (xs : List A) (i : ℕ) (v w : A) → get_elem? xs i ≡ some v → get_elem? (set xs i w) i ≡ some w
set_there [] i v w at = absurd (some-ne-none v (sym at))
set_there (x ∷ xs) zero v w at = refl
set_there (x ∷ xs) (suc i) v w at = set_there xs i v w at

owns : (log : List Entry) (known : Known) → IsPartOf log known → Owns log known.kin
owns log known fits k e there j p at cover = (fits.knows k e there j p at cover).0

-- the entry is made, where the history is what the seat has seen
module _ (id t : ℕ) (seen : List Entry) (kin : List (ℕ × ℕ)) (x : InSlot) (early : t < 2 ^ 62) (may : IsLegal (seen ++ entry_by kin x ∷ [])) (stands : StandsFor x.ledger.value (seen ++ entry_by kin x ∷ [])) where
  abbrev made : Entry
  made = entry_by kin x

  abbrev before : View
  before = viewed (knowing seen kin) (Turn t)

  abbrev after : View
  after = viewed (knowing (seen ++ made ∷ []) kin) Idle

  enters_kept : (words : List ℕ) (homes : List (maybe.Option (Option InSlot))) (views : List View) → length homes ≡ 1 → Kept words homes views seen → get_elem? views id ≡ some before
      → Kept (slice_set words 0 ((slice_index words 0 + 1) % 2 ^ 64)) (slice_set homes 0 (some (Some x))) (set views id after) (seen ++ made ∷ [])
  enters_kept words homes views len kept at =
      let was = kept.each id before at in
      let L : ℕ = length seen in
      let T : ℕ = total waits views in
      let T' : ℕ = total waits (set views id after) in
      let n : ℕ = slice_index words 0 in
      let found : n ≡ L = served_is words homes views seen kept in
      let longer' : length (seen ++ made ∷ []) ≡ L + 1 = length-append seen (made ∷ []) in
      let less : T' + 1 ≡ T + 0 = total_set waits views id before after at in
      let place : t ≡ L = was.stage.0 in
      let cons = was.stage.2 in
      let last : (n + 1) % 18446744073709551616 ≡ length (seen ++ made ∷ []) = mod-eq_of_lt (omega arith) ∙ (let h : n + 1 ≡ length (seen ++ made ∷ []) = omega arith in h) in
      let same : L + T ≡ length (seen ++ made ∷ []) + T' = omega arith in
      let once : (z : ℕ) → total (pairs_spanning z) views ≡ 1 = kept.covered in
      let own = own_counts kin cons was.pairs in
      let others : (j : ℕ) (u : View) → j ≢ id → get_elem? views j ≡ some u → Stands (seen ++ made ∷ []) u = λ j u apart there.
      let two = total_two (pairs_spanning (first_pair kin).0) views id j before u apart at there in
      let all = once (first_pair kin).0 in
      let tickets = total_two (has_ticket t) views id j before u apart at there in
      let mine : has_ticket t before ≡ 1 = one_same t in
      let count = kept.tickets t in
      let few = between_one L (L + T) t in
      let st = kept.each j u there in
      stands_push seen made u.known u.stage
      (idle u.known u.stage place (let h : ticket_at t u.stage ≡ 0 = omega arith in h) st.stage)
      (λ i p is cover. absurd (let h = counts u.known.kin i p (first_pair kin).0 is cover in omega arith))
      st in
      record {
        words_are = ap (λ (ws : List ℕ). slice_set ws 0 ((n + 1) % 18446744073709551616)) kept.words_are ∙ (ap (λ (k : ℕ). k ∷ (L + T) ∷ []) last ∙ ap (λ (k : ℕ). length (seen ++ made ∷ []) ∷ k ∷ []) same);
        small = omega arith;
        legal = may;
        tickets = λ z.
            let a = total_set (has_ticket z) views id before after at in
            let b = kept.tickets z in
            let c = between_less L T' z in
            let d : between (length (seen ++ made ∷ [])) (length (seen ++ made ∷ []) + T') z ≡ between (L + 1) (L + (T' + 1)) z = ap₂ (λ (k m : ℕ). between k m z) longer' (omega arith) in
            let e : between L (L + T) z ≡ between L (L + (T' + 1)) z = ap (λ (k : ℕ). between L k z) (omega arith) in
            let f : one_if (eqb t z) ≡ one_if (eqb L z) = ap (λ (k : ℕ). one_if (eqb k z)) place in
            omega arith;
        slot = λ none. (x, one_home homes (Some x) len, stands);
        covered = λ z. let a = total_set (pairs_spanning z) views id before after at in let b = kept.covered z in omega arith;
        weighed = let a = total_set weight views id before after at in let b = kept.weighed in omega arith;
        each = each_set (seen ++ made ∷ []) views id after others record {
          fits = record {
            begins = prefix_self (seen ++ made ∷ []);
            knows = λ k e there j p is cover. (
              ⊎_elim
                  (λ (l : slice_get seen k ≡ Some e). (was.fits.knows k e l j p is cover).0)
                  (λ (r : (k ≡ L) × (made ≡ e)).
                  let cover' : Spans p (first_pair kin).0 = subst (λ (z : Entry). Spans p z.pass) (sym r.1) cover in
                  let few : total (spanning (first_pair kin).0) kin ≤ 1 = let m = total_member (pairs_spanning (first_pair kin).0) views id before at in let o = once (first_pair kin).0 in omega arith in
                  sym (ap (λ (z : Entry). z.pass) r.1) ∙ ap (λ (z : ℕ × ℕ). z.0) (sym (own_pair kin cons was.pairs few j p is cover')))
                  (get_push seen made e k there),
              slice_get_within (seen ++ made ∷ []) k e there,
            );
          };
          pairs = was.pairs;
          stage = tt;
        };
      }
    where
      idle : (known : Known) (stage : Stage) → t ≡ length seen → ticket_at t stage ≡ 0 → AtStage seen known stage → turn_at stage ≡ 0
      idle known Idle place gone st = refl
      idle known (Waiting z) place gone st = refl
      idle known (Turn z) place gone st = let e : one_if (eqb z t) ≡ 1 = ap (λ (k : ℕ). one_if (eqb k t)) (st.0 ∙ sym place) ∙ one_same t in absurd (omega arith)
      idle known (Met a b) place gone st = refl

  pub enters : Allows Ruled 1 id (before, (0, Some x) ∷ []) 0 (λ n. (n + 1) % 2 ^ 64) (Enters (before, (0, Some x) ∷ []))
  enters s r len at fits =
      let was = r.1.each id before at in
      let here : Kept s.words s.homes s.views seen = subst (Kept s.words s.homes s.views) (sym was.stage.1) r.1 in (
        after,
        gives,
        tt,
        (seen ++ made ∷ [], enters_kept s.words s.homes s.views len here at),
        λ y is. record {
          place = served_is s.words s.homes s.views seen here;
          seat = ap (λ (z : InSlot). (viewed (knowing (seen ++ entry_by kin z ∷ []) kin) Idle, [])) (same_held x y is);
          own = subst (λ (z : InSlot). Owns (seen ++ entry_by kin z ∷ []) kin) (same_held x y is)
              (owns (seen ++ made ∷ []) after.known ((enters_kept s.words s.homes s.views len here at).each id after (set_there s.views id before after at)).fits);
        },
      )

pub splits : (id : ℕ) (known : Known) → IsCons known.kin → (first_pair known.kin).1 ≤ 2 ^ 61 → Splits Ruled id (viewed known Idle) (left (viewed known Idle)) (right (viewed known Idle))
splits id known cons room s r at =
    let log : List Entry = r.0 in
    let kept = r.1 in
    let v : View = viewed known Idle in
    let l : View = left v in
    let w : View = right v in
    let was = kept.each id v at in
    let vs : List View = set s.views id l in
    let both : (f : View → ℕ) → f l + f w ≡ f v → total f (vs ++ w ∷ []) ≡ total f s.views = λ f e. let a = total_push f vs w in let b = total_set f s.views id v l at in omega arith in
    let same : total waits (vs ++ w ∷ []) ≡ total waits s.views = both waits refl in (
      log,
      record {
        words_are = kept.words_are ∙ ap (λ (k : ℕ). length log ∷ (length log + k) ∷ []) (sym same);
        small = kept.small;
        legal = kept.legal;
        tickets = λ z. both (has_ticket z) refl ∙ (kept.tickets z ∙ ap (λ (k : ℕ). between (length log) (length log + k) z) (sym same));
        slot = λ idle. kept.slot (sym (both has_turn refl) ∙ idle);
        covered = λ z. both (pairs_spanning z) (kept_counts z known.kin cons was.pairs) ∙ kept.covered z;
        weighed = both weight (kept_weight known.kin was.pairs room) ∙ kept.weighed;
        each = λ j u e. ⊎_elim
            (λ (there : get_elem? vs j ≡ some u). each_set log s.views id l (λ i x _ e'. kept.each i x e')
            record { fits = record { begins = was.fits.begins; knows = kept_knows log known.seen known.kin was.pairs was.fits.knows }; pairs = kept_are known.kin was.pairs room; stage = tt } j u there)
            (λ (is : w ≡ u). subst (Stands log) is
            record { fits = record { begins = was.fits.begins; knows = new_knows log known.seen known.kin was.pairs was.fits.knows }; pairs = new_are known.kin was.pairs room; stage = tt })
            (at_snoc vs w u j e);
      },
    )

longer_is : (xs ys : List Entry) → ((longer xs ys ≡ ys) × (length xs ≤ length ys)) ⊎ ((longer xs ys ≡ xs) × (length ys ≤ length xs))
longer_is xs ys = go (leb (length xs) (length ys)) refl
  where
    go : (c : Bool) → leb (length xs) (length ys) ≡ c → ((cond c ys xs ≡ ys) × (length xs ≤ length ys)) ⊎ ((cond c ys xs ≡ xs) × (length ys ≤ length xs))
    go true e = inl (refl, leb-true (length xs) (length ys) e)
    go false e = inr (refl, (let h = leb-false (length xs) (length ys) e in omega arith))

-- the longer of two histories that were seen
longer_fits : (log : List Entry) (a b : Known) → IsPartOf log a → IsPartOf log b → IsPrefix (longer a.seen b.seen) log × (length a.seen ≤ length (longer a.seen b.seen)) × (length b.seen ≤ length (longer a.seen b.seen))
longer_fits log a b x y = ⊎_elim
    (λ (h : (longer a.seen b.seen ≡ b.seen) × (length a.seen ≤ length b.seen)). (subst (λ (z : List Entry). IsPrefix z log) (sym h.0) y.begins, (let e = ap (length {A = Entry}) h.0 in let g = h.1 in omega arith), (let e = ap (length {A = Entry}) h.0 in omega arith)))
    (λ (h : (longer a.seen b.seen ≡ a.seen) × (length b.seen ≤ length a.seen)). (subst (λ (z : List Entry). IsPrefix z log) (sym h.0) x.begins, (let e = ap (length {A = Entry}) h.0 in omega arith), (let e = ap (length {A = Entry}) h.0 in let g = h.1 in omega arith)))
    (longer_is a.seen b.seen)

pub joins : (id other : ℕ) (a b : Known) → Joins Ruled id (viewed a Idle) other (viewed b Idle) (met (viewed a Idle) (viewed b Idle)) spent
joins id other a b s r at apart at' =
    let log : List Entry = r.0 in
    let kept = r.1 in
    let v : View = viewed a Idle in
    let u : View = viewed b Idle in
    let w : View = met v u in
    let there : get_elem? s.views other ≡ some u = ⊎_elim (λ (x : (other ≡ id) × (w ≡ u)). absurd (apart x.0)) (λ (x : (other ≢ id) × (get_elem? s.views other ≡ some u)). x.1) (at_set s.views id other w u at') in
    let was = kept.each id v at in
    let was' = kept.each other u there in
    let vs : List View = set s.views id w in
    let both : (f : View → ℕ) → f w + f spent ≡ f v + f u → total f (set vs other spent) ≡ total f s.views = λ f e. let a = total_set f s.views id v w at in let b = total_set f vs other u spent at' in omega arith in
    let same : total waits (set vs other spent) ≡ total waits s.views = both waits refl in
    let ends = longer_fits log a b was.fits was'.fits in (
      log,
      record {
        words_are = kept.words_are ∙ ap (λ (k : ℕ). length log ∷ (length log + k) ∷ []) (sym same);
        small = kept.small;
        legal = kept.legal;
        tickets = λ z. both (has_ticket z) refl ∙ (kept.tickets z ∙ ap (λ (k : ℕ). between (length log) (length log + k) z) (sym same));
        slot = λ idle. kept.slot (sym (both has_turn refl) ∙ idle);
        covered = λ z. both (pairs_spanning z) (let h = total_append (spanning z) a.kin b.kin in omega arith) ∙ kept.covered z;
        weighed = both weight (let h = total_append part a.kin b.kin in omega arith) ∙ kept.weighed;
        each = each_set log vs other spent
            (λ j x _ e. each_set log s.views id w (λ i y _ e'. kept.each i y e')
            record {
              fits = record {
                begins = ends.0;
                knows = λ k e there j p is cover. ⊎_elim
                    (λ (l : slice_get a.kin j ≡ Some p). let h = was.fits.knows k e there j p l cover in (h.0, (let g = h.1 in let m = ends.1 in omega arith)))
                    (λ (i : (n : ℕ) × (slice_get b.kin n ≡ Some p)). let h = was'.fits.knows k e there i.0 p i.1 cover in (h.0, (let g = h.1 in let m = ends.2 in omega arith)))
                    (get_append a.kin b.kin p j is);
              };
              pairs = λ j p is. ⊎_elim (λ (l : slice_get a.kin j ≡ Some p). was.pairs j p l) (λ (i : (n : ℕ) × (slice_get b.kin n ≡ Some p)). was'.pairs i.0 p i.1) (get_append a.kin b.kin p j is);
              stage = (was.fits, was'.fits, refl);
            } j x e)
            record { fits = record { begins = (log, refl); knows = λ k e there j p is cover. absurd (cc (is)) }; pairs = λ j p is. absurd (cc (is)); stage = tt };
      },
    )

-- a seat that took in another looks: it has then seen the whole history
pub learns : (id : ℕ) (known a b : Known) → Allows Ruled 1 id (viewed known (Met a b), []) 0 (λ n. n) (λ _. Learns (viewed known (Met a b), []))
learns id known a b s r len at fits =
    let log : List Entry = r.0 in
    let kept = r.1 in
    let v : View = viewed known (Met a b) in
    let w : View = viewed (knowing log known.kin) Idle in
    let n : ℕ = slice_index s.words 0 in
    let was = kept.each id v at in
    let L : ℕ = length log in
    let T : ℕ = total waits s.views in
    let found : n ≡ L = served_is s.words s.homes s.views log kept in
    let same : slice_set s.words 0 n ≡ s.words = ap (λ (ws : List ℕ). slice_set ws 0 n) kept.words_are ∙ (ap (λ (k : ℕ). k ∷ (L + T) ∷ []) found ∙ sym kept.words_are) in
    let stays : (f : View → ℕ) → f w ≡ f v → total f (set s.views id w) ≡ total f s.views = λ f e. let a = total_set f s.views id v w at in omega arith in
    let still : total waits (set s.views id w) ≡ T = stays waits refl in (
      w,
      keeps,
      tt,
      (
        log,
        record {
          words_are = same ∙ (kept.words_are ∙ ap (λ (k : ℕ). L ∷ (L + k) ∷ []) (sym still));
          small = kept.small;
          legal = kept.legal;
          tickets = λ z. stays (has_ticket z) refl ∙ (kept.tickets z ∙ ap (λ (k : ℕ). between L (L + k) z) (sym still));
          slot = λ idle. kept.slot (sym (stays has_turn refl) ∙ idle);
          covered = λ z. stays (pairs_spanning z) refl ∙ kept.covered z;
          weighed = stays weight refl ∙ kept.weighed;
          each = each_set log s.views id w (λ j u _ e. kept.each j u e) record { fits = whole log known was.fits; pairs = was.pairs; stage = tt };
        },
      ),
      record { slots = refl; stage = refl; kin = refl; legal = kept.legal; own = owns log known was.fits; both = (grows log a was.stage.0, grows log b was.stage.1); few = kept.small },
    )

pub starts : (x : InSlot) → StandsFor x.ledger.value [] → Ruled (opening (0 ∷ 0 ∷ []) (Some x ∷ []) first_view)
starts x stands = (
  [],
  record {
    words_are = refl;
    small = omega arith;
    legal = λ i e at. absurd (cc (at));
    tickets = λ t. grind (arith, nat_tests);
    slot = λ _. (x, refl, stands);
    covered = λ z. let rest : z % 1 ≡ 0 = omega arith in let one : one_if (eqb (z % 1) 0) ≡ 1 = ap (λ (k : ℕ). one_if (eqb k 0)) rest ∙ one_same 0 in omega arith;
    weighed = refl;
    each = one;
  },
)
  where
    only : IsKin ((0, 1) ∷ [])
    only zero p at = let q : ℕ × ℕ = (0, 1) in let e : q ≡ p = cc (at) in let pair : IsPair (0, 1) = record { below = omega arith; power = 0; small = omega arith; step = refl } in subst IsPair e pair
    only (suc j) p at = absurd (cc (at))

    one : (id : ℕ) (v : View) → get_elem? (first_view ∷ []) id ≡ some v → Stands [] v
    one zero v e = subst (Stands []) (some-injective _ _ e) record { fits = record { begins = ([], refl); knows = λ k e at j p is cover. absurd (cc (at)) }; pairs = only; stage = tt }
    one (suc id) v e = absurd (some-ne-none v (sym e))
