-- Lanes that are opened one after another.
use Rattle.std.proofs.Common.{◌≡◌, ◌≢◌, ◌⊎◌, ℕ, zero, suc, ◌+◌, ◌-◌, ◌*◌, ◌^◌, ◌<◌, ◌≤◌, ◌==◌, true, false, List, [], ◌∷◌, ◌++◌, length, take, map, slice_get, Option, Some, refl, sym, ap, subst, ◌∙◌, inl, inr, arith}
use Rattle.std.specs.List.{AllByRecursion}
use Rattle.std.specs.Prelude.{slice_set}
use Rattle.std.proofs.lemmas.List.Elements.{All-from_recursion, recursion_from_All}
use Rattle.std.proofs.lemmas.Bool.{cases_Bool}
use Rattle.std.proofs.lemmas.Bool.Decides.{nat_tests}
use Rattle.atomic_table.specs.Seated.{TableId}
use Rattle.hsm_desk.specs.Passes.{PassView, first_pass, kept_pass, new_pass, step}
use Rattle.hsm_io.specs.Outside.{Rose}
use Rattle.hsm_io.specs.Sides.{DoorSide, IsNotAmong}
use Rattle.hsm_rows.specs.declared.settings.Module.{Module}
use Rattle.hsm_server.specs.Lanes.{LaneState}
use Rattle.hsm_program.specs.declared.lanes.LanesFault.{LanesFault}
use Rattle.hsm_program.specs.declared.lanes.LanesFault.TheVariants.{Memory, Door}
use Rattle.hsm_program.specs.Lanes.{AreLanes, AreRefused, IsRefused, IsNewLane, IsSpan, OthersStay, keeps, next_span, seat, step_of}
use Rattle.hsm_program.proofs.Lists.{item_at, within}

-- ---- lists

set_at : {A : Type 0} (xs : List A) (k : ℕ) (v : A) → k < length xs → slice_get (slice_set xs k v) k ≡ Some v
set_at [] k v less = absurd (omega (arith, less))
set_at (x ∷ xs) zero v less = refl
set_at (x ∷ xs) (suc k) v less = set_at xs k v (omega (arith, less))

set_other : {A : Type 0} (xs : List A) (k j : ℕ) (v : A) → j ≢ k → slice_get (slice_set xs k v) j ≡ slice_get xs j
set_other [] k j v other = refl
set_other (x ∷ xs) zero zero v other = absurd (other refl)
set_other (x ∷ xs) zero (suc j) v other = refl
set_other (x ∷ xs) (suc k) zero v other = refl
set_other (x ∷ xs) (suc k) (suc j) v other = set_other xs k j v (λ same. other (ap suc same))

pub set_length : {A : Type 0} (xs : List A) (k : ℕ) (v : A) → length (slice_set xs k v) ≡ length xs
set_length [] k v = refl
set_length (x ∷ xs) zero v = refl
set_length (x ∷ xs) (suc k) v = ap suc (set_length xs k v)

pub map_set : {A B : Type 0} (f : A → B) (xs : List A) (k : ℕ) (v : A) → map f (slice_set xs k v) ≡ slice_set (map f xs) k (f v)
map_set f [] k v = refl
map_set f (x ∷ xs) zero v = refl
map_set f (x ∷ xs) (suc k) v = ap (λ (rest : List _). f x ∷ rest) (map_set f xs k v)

pub pushed : {A : Type 0} (xs : List A) (x : A) (k : ℕ) (a : A) → slice_get (xs ++ x ∷ []) k ≡ Some a → (slice_get xs k ≡ Some a) ⊎ ((k ≡ length xs) × (x ≡ a))
pushed [] x zero a at = let e : x ≡ a = cc in inr (refl, e)
pushed [] x (suc k) a at = absurd (cc)
pushed (y ∷ xs) x zero a at = inl at
pushed (y ∷ xs) x (suc k) a at = elim (pushed xs x k a at) [
  | inl before ↦ inl before
  | inr last ↦ inr (ap suc last.0, last.1)
]

length_push : {A : Type 0} (xs : List A) (x : A) → length (xs ++ x ∷ []) ≡ length xs + 1
length_push [] x = refl
length_push (y ∷ xs) x = let h = length_push xs x in omega (arith, h)

-- the first ports with one more
take_more : (n p : ℕ) (ports : List ℕ) → slice_get ports n ≡ Some p → take (suc n) ports ≡ take n ports ++ p ∷ []
take_more n p [] at = absurd (cc)
take_more zero p (q ∷ ports) at = let e : q ≡ p = cc in ap (λ (x : ℕ). x ∷ []) e
take_more (suc n) p (q ∷ ports) at = ap (λ (rest : List ℕ). q ∷ rest) (take_more n p ports at)

pub take_push : (n p : ℕ) (ports : List ℕ) → slice_get ports n ≡ Some p → take (n + 1) ports ≡ take n ports ++ p ∷ []
take_push n p ports at = ap (λ (k : ℕ). take k ports) (let e : n + 1 ≡ suc n = omega arith in e) ∙ take_more n p ports at

rec_split : (P : ℕ → Type 0) (xs : List ℕ) (x : ℕ) → AllByRecursion P (xs ++ x ∷ []) → AllByRecursion P xs × P x
rec_split P [] x all = (tt, all.0)
rec_split P (y ∷ xs) x all = let rest = rec_split P xs x all.1 in ((all.0, rest.0), rest.1)

-- a port that is not among some with one more
among_push : (other port : ℕ) (ports : List ℕ) → IsNotAmong other (ports ++ port ∷ []) → IsNotAmong other ports × (port ≢ other)
among_push other port ports apart =
    let parts = rec_split (λ (p : ℕ). p ≢ other) ports port (recursion_from_All (λ (p : ℕ). p ≢ other) (ports ++ port ∷ []) apart) in
    (All-from_recursion (λ (p : ℕ). p ≢ other) ports parts.0, parts.1)

-- ---- steps

step_respan : (span count k : ℕ) → count ≡ 2 * span → k < count → step_of span count k ≡ step_of count count k
step_respan span count k is less = grind (arith, nat_tests, is, less)

step_more : (span count k : ℕ) → span ≤ count → count < 2 * span → k < count → k + span ≢ count → step_of span count k ≡ step_of span (count + 1) k
step_more span count k least most less other = grind (arith, nat_tests, least, most, less, other)

step_split : (span count k : ℕ) → k + span ≡ count → k < span → step_of span count k ≡ span
step_split span count k is less = grind (arith, nat_tests, is, less)

step_kept : (span count k : ℕ) → k + span ≡ count → step_of span (count + 1) k ≡ 2 * span
step_kept span count k is = grind (arith, nat_tests, is)

step_new : (span count : ℕ) → span ≤ count → step_of span (count + 1) count ≡ 2 * span
step_new span count least = grind (arith, nat_tests, least)

seat_by : (desk : TableId) (span other count more k : ℕ) → step_of span count k ≡ step_of other more k → seat desk span count k ≡ seat desk other more k
seat_by desk span other count more k is = ap (λ (n : ℕ). record { desk = desk; seen = []; kin = (k, n) ∷ [] }) is

-- the pass of a lane from which one was split
seat_kept : (desk : TableId) (span count k : ℕ) → k + span ≡ count → k < span → kept_pass (seat desk span count k) ≡ seat desk span (count + 1) k
seat_kept desk span count k is less =
    ap (λ (n : ℕ). record { desk = desk; seen = []; kin = (k, n) ∷ [] })
    (ap (λ (n : ℕ). 2 * n) (step_split span count k is less) ∙ sym (step_kept span count k is))

-- and the new one
seat_new : (desk : TableId) (span count k : ℕ) → k + span ≡ count → k < span → span ≤ count → new_pass (seat desk span count k) ≡ seat desk span (count + 1) count
seat_new desk span count k is less least =
    ap (λ (n : ℕ). record { desk = desk; seen = []; kin = (k + n, 2 * n) ∷ [] }) (step_split span count k is less)
    ∙ ap (λ (n : ℕ). record { desk = desk; seen = []; kin = (n, 2 * span) ∷ [] }) is
    ∙ ap (λ (n : ℕ). record { desk = desk; seen = []; kin = (count, n) ∷ [] }) (sym (step_new span count least))

-- ---- the lanes so far

-- So far the lanes of the first ports are open, and the connections to come at each other port are as they were.
pub record OpenTo (m : Module) (accept : ℕ) (moments : Option (List ℕ)) (ports : List ℕ) (desk : TableId) (before now : DoorSide) (span number : ℕ) (lanes : List LaneState) : Type 0 where
  pub count : length lanes ≡ number
  pub is_span : IsSpan span number
  pub each : (k port : ℕ) (lane : LaneState) → slice_get ports k ≡ Some port → slice_get lanes k ≡ Some lane
      → IsNewLane m accept moments (before.connections port) k (seat desk span number k) lane
  pub asked : now.asked ≡ take number ports
  pub others : (port : ℕ) → IsNotAmong port (take number ports) → now.connections port ≡ before.connections port
  pub faults : now.faults ≡ before.faults

-- the span is that of the next lane, which is not yet twice as much
pub record IsNextSpan (span number : ℕ) : Type 0 where
  pub is_span : IsSpan span number
  pub below : number < 2 * span

span_less : (count span : ℕ) → count ≤ 2 * span → (count == 2 * span) ≡ false → count < 2 * span
span_less count span most other = grind (arith, nat_tests, most, other)

span_same : (count span : ℕ) → (count == 2 * span) ≡ true → count ≡ 2 * span
span_same count span is = grind (arith, nat_tests, is)

next_same : (span number : ℕ) → (number == 2 * span) ≡ true → next_span span number ≡ number
next_same span number is = rw is refl

next_other : (span number : ℕ) → (number == 2 * span) ≡ false → next_span span number ≡ span
next_other span number is = rw is refl

pow_some : (n : ℕ) → 0 < 2 ^ n
pow_some zero = omega arith
pow_some (suc n) = let h = pow_some n in omega (arith, h)

pub span_next : (span number : ℕ) → IsSpan span number → IsNextSpan (next_span span number) number
span_next span number is = elim (cases_Bool (number == 2 * span)) [
  | inl same ↦ (let twice = span_same number span same in
      let some : 0 < span = subst (λ (n : ℕ). 0 < n) (sym is.is) (pow_some is.power) in
      subst (λ (n : ℕ). IsNextSpan n number) (sym (next_same span number same)) (record {
        is_span = record { power = suc is.power; is = twice ∙ (let e : 2 * span ≡ 2 * 2 ^ is.power = ap (λ (n : ℕ). 2 * n) is.is in e ∙ (let f : 2 * 2 ^ is.power ≡ 2 ^ suc is.power = omega arith in f)); least = omega arith; most = omega arith };
        below = omega (arith, twice, some);
      }))
  | inr other ↦ (let below = span_less number span is.most other in
      subst (λ (n : ℕ). IsNextSpan n number) (sym (next_other span number other)) (record { is_span = is; below = below }))
]

-- the lanes so far, by the span of the next one
pub respan : (m : Module) (accept : ℕ) (moments : Option (List ℕ)) (ports : List ℕ) (desk : TableId) (before now : DoorSide) (span number : ℕ) (lanes : List LaneState)
    → OpenTo m accept moments ports desk before now span number lanes → OpenTo m accept moments ports desk before now (next_span span number) number lanes
respan m accept moments ports desk before now span number lanes opened = record {
  count = opened.count;
  is_span = (span_next span number opened.is_span).is_span;
  each = λ k port lane at_port at_lane.
      let less = within lanes k lane at_lane in
      subst (λ (pass : PassView). IsNewLane m accept moments (before.connections port) k pass lane)
      (elim (cases_Bool (number == 2 * span)) [
        | inl same ↦ seat_by desk span (next_span span number) number number k
            (step_respan span number k (span_same number span same) (omega (arith, less, opened.count)) ∙ ap (λ (n : ℕ). step_of n number k) (sym (next_same span number same)))
        | inr other ↦ seat_by desk span (next_span span number) number number k (ap (λ (n : ℕ). step_of n number k) (sym (next_other span number other)))
      ])
      (opened.each k port lane at_port at_lane);
  asked = opened.asked;
  others = opened.others;
  faults = opened.faults;
}

-- a lane from whose pass one was split
keeps_new : (m : Module) (accept : ℕ) (moments : Option (List ℕ)) (to_come : Option (List (List ℕ))) (number : ℕ) (pass : PassView) (lane : LaneState)
    → IsNewLane m accept moments to_come number pass lane → IsNewLane m accept moments to_come number (kept_pass pass) (keeps lane)
keeps_new m accept moments to_come number pass lane new = record {
  numbered = new.numbered;
  accepts = new.accepts;
  least = new.least;
  seated = ap kept_pass new.seated;
  clock = new.clock;
  capacity = new.capacity;
  no_key = new.no_key;
  doorway = new.doorway;
  faults = new.faults;
  broken = new.broken;
  none_out = new.none_out;
  no_report = new.no_report;
  no_fault = new.no_fault;
}

some_same : {A : Type 0} (a b : A) → Some a ≡ Some b → a ≡ b
some_same a b is = cc

-- the same place, or another one
same_or : (j k : ℕ) → (j ≡ k) ⊎ (j ≢ k)
same_or zero zero = inl refl
same_or zero (suc k) = inr (λ e. absurd (omega (arith, e)))
same_or (suc j) zero = inr (λ e. absurd (omega (arith, e)))
same_or (suc j) (suc k) = elim (same_or j k) [ inl e ↦ inl (ap suc e) | inr other ↦ inr (λ e. other (omega (arith, e))) ]

-- an earlier lane, where a pass was split from that of the lane k
earlier : (m : Module) (accept : ℕ) (moments : Option (List ℕ)) (ports : List ℕ) (desk : TableId) (before now : DoorSide) (span number k : ℕ) (lanes : List LaneState) (from : LaneState)
    → OpenTo m accept moments ports desk before now span number lanes → number < 2 * span → k + span ≡ number → slice_get lanes k ≡ Some from
    → (j port : ℕ) (lane : LaneState) → slice_get ports j ≡ Some port → slice_get (slice_set lanes k (keeps from)) j ≡ Some lane
    → IsNewLane m accept moments (before.connections port) j (seat desk span (number + 1) j) lane
earlier m accept moments ports desk before now span number k lanes from opened below is at_from j port lane at_port at_lane =
    let less : j < number = (let h = within (slice_set lanes k (keeps from)) j lane at_lane in omega (arith, h, set_length lanes k (keeps from), opened.count)) in
    let k_less : k < span = omega (arith, below, is) in
    elim (same_or j k) [
      | inl here ↦ (let lane_is : keeps from ≡ lane =
          some_same (keeps from) lane (sym (set_at lanes k (keeps from) (within lanes k from at_from)) ∙ ap (λ (n : ℕ). slice_get (slice_set lanes k (keeps from)) n) (sym here) ∙ at_lane) in
          let old = opened.each k port from (ap (λ (n : ℕ). slice_get ports n) (sym here) ∙ at_port) at_from in
          let kept = subst (λ (p : PassView). IsNewLane m accept moments (before.connections port) k p (keeps from)) (seat_kept desk span number k is k_less)
          (keeps_new m accept moments (before.connections port) k (seat desk span number k) from old) in
          subst (λ (l : LaneState). IsNewLane m accept moments (before.connections port) j (seat desk span (number + 1) j) l) lane_is
          (subst (λ (n : ℕ). IsNewLane m accept moments (before.connections port) n (seat desk span (number + 1) n) (keeps from)) (sym here) kept))
      | inr other ↦ (let at_old : slice_get lanes j ≡ Some lane = sym (set_other lanes k j (keeps from) other) ∙ at_lane in
          let apart : j + span ≢ number = λ e. other (omega (arith, e, is)) in
          subst (λ (p : PassView). IsNewLane m accept moments (before.connections port) j p lane)
          (seat_by desk span span number (number + 1) j (step_more span number j opened.is_span.least below less apart))
          (opened.each j port lane at_port at_old))
    ]

-- one more lane, whose pass was split from that of the lane k
pub open_more : (m : Module) (accept : ℕ) (moments : Option (List ℕ)) (ports : List ℕ) (desk : TableId) (before now after : DoorSide) (span number port k : ℕ) (lanes : List LaneState) (from new : LaneState)
    → OpenTo m accept moments ports desk before now span number lanes → number < 2 * span → k + span ≡ number → slice_get lanes k ≡ Some from
    → slice_get ports number ≡ Some port → IsNotAmong port (take number ports)
    → IsNewLane m accept moments (now.connections port) number (new_pass from.pass) new → OthersStay port now after → after.asked ≡ now.asked ++ port ∷ []
    → OpenTo m accept moments ports desk before after span (number + 1) (slice_set lanes k (keeps from) ++ new ∷ [])
open_more m accept moments ports desk before now after span number port k lanes from new opened below is at_from at_port apart is_new stay asks =
    let k_less : k < span = omega (arith, below, is) in
    let k_port = item_at ports k (let h = within ports number port at_port in omega (arith, h, is, k_less, opened.is_span.least)) in
    let from_pass : from.pass ≡ seat desk span number k = (opened.each k k_port.0 from k_port.1 at_from).seated in
    let pass_is : new_pass from.pass ≡ seat desk span (number + 1) number = ap new_pass from_pass ∙ seat_new desk span number k is k_less opened.is_span.least in
    let there : IsNewLane m accept moments (before.connections port) number (seat desk span (number + 1) number) new =
    subst (λ (c : Option (List (List ℕ))). IsNewLane m accept moments c number (seat desk span (number + 1) number) new) (opened.others port apart)
    (subst (λ (q : PassView). IsNewLane m accept moments (now.connections port) number q new) pass_is is_new) in
    let one_more = take_push number port ports at_port in
    record {
      count = length_push (slice_set lanes k (keeps from)) new ∙ ap (λ (n : ℕ). n + 1) (set_length lanes k (keeps from) ∙ opened.count);
      is_span = record { power = opened.is_span.power; is = opened.is_span.is; least = (let l = opened.is_span.least in omega (arith, l)); most = omega (arith, below) };
      each = λ j p lane at_p at_lane. elim (pushed (slice_set lanes k (keeps from)) new j lane at_lane) [
        | inr last ↦ (let j_is : j ≡ number = last.0 ∙ set_length lanes k (keeps from) ∙ opened.count in
            let p_is : p ≡ port = some_same p port (sym at_p ∙ ap (λ (n : ℕ). slice_get ports n) j_is ∙ at_port) in
            subst (λ (l : LaneState). IsNewLane m accept moments (before.connections p) j (seat desk span (number + 1) j) l) last.1
            (subst (λ (n : ℕ). IsNewLane m accept moments (before.connections n) j (seat desk span (number + 1) j) new) (sym p_is)
            (subst (λ (n : ℕ). IsNewLane m accept moments (before.connections port) n (seat desk span (number + 1) n) new) (sym j_is) there)))
        | inl old ↦ earlier m accept moments ports desk before now span number k lanes from opened below is at_from j p lane at_p old
      ];
      asked = asks ∙ ap (λ (front : List ℕ). front ++ port ∷ []) opened.asked ∙ sym one_more;
      others = λ other not_among.
          let parts = among_push other port (take number ports) (subst (IsNotAmong other) one_more not_among) in
          elim (stay.connections other) [
            | inl kept ↦ kept ∙ opened.others other parts.0
            | inr same ↦ absurd (parts.1 (sym same))
          ];
      faults = stay.faults ∙ opened.faults;
    }

-- the first lane, with the first pass of the desk
pub open_first : (m : Module) (accept : ℕ) (moments : Option (List ℕ)) (ports : List ℕ) (desk : TableId) (before after : DoorSide) (port : ℕ) (pass : PassView) (new : LaneState)
    → slice_get ports 0 ≡ Some port → before.asked ≡ [] → pass ≡ first_pass desk
    → IsNewLane m accept moments (before.connections port) 0 pass new → OthersStay port before after → after.asked ≡ before.asked ++ port ∷ []
    → OpenTo m accept moments ports desk before after 1 1 (new ∷ [])
open_first m accept moments ports desk before after port pass new at_port none first is_new stay asks =
    let one_more = take_push 0 port ports at_port in
    record {
      count = refl;
      is_span = record { power = 0; is = refl; least = omega arith; most = omega arith };
      each = first_lane;
      asked = asks ∙ ap (λ (front : List ℕ). front ++ port ∷ []) none ∙ sym one_more;
      others = λ other not_among.
          let parts = among_push other port (take 0 ports) (subst (IsNotAmong other) one_more not_among) in
          elim (stay.connections other) [
            | inl kept ↦ kept
            | inr same ↦ absurd (parts.1 (sym same))
          ];
      faults = stay.faults;
    }
  where
    first_lane : (k p : ℕ) (lane : LaneState) → slice_get ports k ≡ Some p → slice_get (new ∷ []) k ≡ Some lane → IsNewLane m accept moments (before.connections p) k (seat desk 1 1 k) lane
    first_lane zero p lane at_p at_lane =
        let p_is : port ≡ p = some_same port p (sym at_port ∙ at_p) in
        let l_is : new ≡ lane = some_same new lane at_lane in
        subst (λ (n : ℕ). IsNewLane m accept moments (before.connections n) 0 (seat desk 1 1 0) lane) p_is
        (subst (λ (l : LaneState). IsNewLane m accept moments (before.connections port) 0 (seat desk 1 1 0) l) l_is
        (subst (λ (q : PassView). IsNewLane m accept moments (before.connections port) 0 q new) first is_new))
    first_lane (suc k) p lane at_p at_lane = absurd (cc)

-- ---- the lane from whose pass the next one is split

step_most : (span count k : ℕ) → step_of span count k ≤ 2 * span
step_most span count k = grind (arith, nat_tests)

-- the lanes so far by the span of the next one, the lane from whose pass that is split, and its pass
pub record IsSource (m : Module) (accept : ℕ) (moments : Option (List ℕ)) (ports : List ℕ) (desk : TableId) (before now : DoorSide) (span number : ℕ) (lanes : List LaneState) (from : LaneState) : Type 0 where
  pub opened : OpenTo m accept moments ports desk before now span number lanes
  pub below : number < 2 * span
  pub at_from : slice_get lanes (number - span) ≡ Some from
  pub of_desk : from.pass.desk ≡ desk
  pub few : step from.pass ≤ 2 * number

-- the number of that lane
pub place : (m : Module) (accept : ℕ) (moments : Option (List ℕ)) (ports : List ℕ) (desk : TableId) (before now : DoorSide) (last span number : ℕ) (lanes : List LaneState)
    → OpenTo m accept moments ports desk before now last number lanes → span ≡ next_span last number → (span ≤ number) × (number - span < length lanes)
place m accept moments ports desk before now last span number lanes opened is =
    let next : IsNextSpan span number = subst (λ (n : ℕ). IsNextSpan n number) (sym is) (span_next last number opened.is_span) in
    let least = next.is_span.least in
    let below = next.below in
    let count = opened.count in
    (least, omega (arith, least, below, count))

pub source : (m : Module) (accept : ℕ) (moments : Option (List ℕ)) (ports : List ℕ) (desk : TableId) (before now : DoorSide) (last span number : ℕ) (lanes : List LaneState) (from : LaneState)
    → OpenTo m accept moments ports desk before now last number lanes → span ≡ next_span last number → number < length ports → slice_get lanes (number - span) ≡ Some from
    → IsSource m accept moments ports desk before now span number lanes from
source m accept moments ports desk before now last span number lanes from opened is less at_from =
    let next : IsNextSpan span number = subst (λ (n : ℕ). IsNextSpan n number) (sym is) (span_next last number opened.is_span) in
    let least = next.is_span.least in
    let again : OpenTo m accept moments ports desk before now span number lanes =
    subst (λ (n : ℕ). OpenTo m accept moments ports desk before now n number lanes) (sym is) (respan m accept moments ports desk before now last number lanes opened) in
    let port = item_at ports (number - span) (omega (arith, less, least)) in
    let seated : from.pass ≡ seat desk span number (number - span) = (again.each (number - span) port.0 from port.1 at_from).seated in
    let most = step_most span number (number - span) in
    let steps : step from.pass ≡ step_of span number (number - span) = ap step seated in
    record {
      opened = again;
      below = next.below;
      at_from = at_from;
      of_desk = ap (λ (p : PassView). p.desk) seated;
      few = omega (arith, steps, most, least);
    }

-- ---- the end

-- all lanes are open
pub all_open : (m : Module) (accept : ℕ) (moments : Option (List ℕ)) (ports : List ℕ) (desk : TableId) (before now : DoorSide) (span number : ℕ) (lanes : List LaneState)
    → OpenTo m accept moments ports desk before now span number lanes → number ≡ length ports → AreLanes m accept moments before.connections ports desk lanes
all_open m accept moments ports desk before now span number lanes opened is = record {
  count = opened.count ∙ is;
  span = span;
  is_span = subst (λ (n : ℕ). IsSpan span n) (sym opened.count) opened.is_span;
  each = λ k port lane at_port at_lane.
      subst (λ (n : ℕ). IsNewLane m accept moments (before.connections port) k (seat desk span n k) lane) (sym opened.count) (opened.each k port lane at_port at_lane);
}

-- the door of the first lane is refused
pub refused_first : (ports : List ℕ) (before after : DoorSide) (port : ℕ) (fault : LanesFault) → slice_get ports 0 ≡ Some port → before.asked ≡ []
    → after.asked ≡ before.asked ++ port ∷ [] → IsRefused 0 port before after fault → AreRefused ports before after fault
refused_first ports before after port Memory at_port none asks refused = tt
refused_first ports before after port (Door lane) at_port none asks refused =
    let asked : after.asked ≡ take 1 ports = asks ∙ ap (λ (front : List ℕ). front ++ port ∷ []) none ∙ sym (take_push 0 port ports at_port) in (
      port,
      subst (λ (n : ℕ). slice_get ports n ≡ Some port) (sym refused.0) at_port,
      subst (λ (n : ℕ). after.asked ≡ take (n + 1) ports) (sym refused.0) asked,
      refused.1,
      refused.2,
    )

-- the door of the next lane is refused
pub refused_next : (m : Module) (accept : ℕ) (moments : Option (List ℕ)) (ports : List ℕ) (desk : TableId) (before now after : DoorSide) (span number port : ℕ) (lanes : List LaneState) (fault : LanesFault)
    → OpenTo m accept moments ports desk before now span number lanes → slice_get ports number ≡ Some port → after.asked ≡ now.asked ++ port ∷ []
    → IsRefused number port now after fault → AreRefused ports before after fault
refused_next m accept moments ports desk before now after span number port lanes Memory opened at_port asks refused = tt
refused_next m accept moments ports desk before now after span number port lanes (Door lane) opened at_port asks refused =
    let asked : after.asked ≡ take (number + 1) ports = asks ∙ ap (λ (front : List ℕ). front ++ port ∷ []) opened.asked ∙ sym (take_push number port ports at_port) in (
      port,
      subst (λ (n : ℕ). slice_get ports n ≡ Some port) (sym refused.0) at_port,
      subst (λ (n : ℕ). after.asked ≡ take (n + 1) ports) (sym refused.0) asked,
      refused.1,
      subst (λ (n : ℕ). Rose n after.faults) opened.faults refused.2,
    )
