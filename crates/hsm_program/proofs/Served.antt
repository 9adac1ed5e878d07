-- The lanes that were opened, served and joined.
use Rattle.std.proofs.Common.{◌≡◌, ℕ, zero, suc, ◌≤◌, ◌^◌, List, [], ◌∷◌, length, map, flat_map, slice_get, slice_index_or, Option, Some, None, IfSome, IsSome, refl, sym, ap, subst, ◌∙◌, arith}
use Rattle.std.specs.List.{AllZip}
use Rattle.std.proofs.lemmas.List.{length-map}
use Rattle.atomic_table.specs.Seated.{TableId}
use Rattle.hsm_auth.specs.Own.{MadeBelow}
use Rattle.hsm_config.specs.declared.configuration.Config.{Config}
use Rattle.hsm_config.specs.Configs.{module_of, ports_of}
use Rattle.hsm_desk.specs.Passes.{PassView, IsWhole, OnlyKin, number}
use Rattle.hsm_io.specs.Sides.{DoorSide, SeedSide}
use Rattle.hsm_rows.specs.declared.settings.Module.{Module}
use Rattle.hsm_server.specs.Lanes.{EachLane, IsReady, LaneState, LaneView, Ran, place_of, message_count}
use Rattle.hsm_answers.specs.Messages.{least_for}
use Rattle.hsm_program.specs.Headline.{Setting, module_in}
use Rattle.hsm_program.specs.Lanes.{AreJoined, AreLanes, IsNewLane, IsSpan, seat, step_of}
use Rattle.hsm_program.specs.Serving.{ServedBy}
use Rattle.hsm_program.proofs.ClearFields.{ClearWhereGranted, OwnEvery, OwnThere, WordsAuthorise}
use Rattle.hsm_program.proofs.Lists.{index_at, item_at, map_at, map_from, within, zip_of_each, each_of_zip}
use Rattle.hsm_program.proofs.Seats.{pair_of_row, whole}
use Rattle.hsm_program.proofs.Serving.{AllLanes, OwnTotal, causes, counted, headline, lane_sum, lane_sum_is, view_of}

-- the pass of a lane
abbrev pub pass_of : LaneState → PassView
pass_of lane = lane.pass

-- what ran item by item, where it did lane by lane
pub ran_zip : {L : Type 0} (m : Module) (S : L → LaneState) (xs ys : List L) → length ys ≡ length xs
    → EachLane (λ before after. Ran m (S before) (S after)) xs ys → AllZip (Ran m) (map S xs) (map S ys)
ran_zip m S xs ys same ran = zip_of_each (Ran m) (map S xs) (map S ys) (length-map xs S ∙ sym same ∙ sym (length-map ys S)) (λ k a b at there.
    let x = map_from S xs k a at in
    let y = map_from S ys k b there in
    let here = ran k x.0 (within xs k x.0 x.1) in
    subst (λ (v : LaneState). Ran m v b) x.2
    (subst (λ (v : LaneState). Ran m (S x.0) v) y.2
    (subst (λ (v : _). Ran m (S x.0) (S v)) (index_at ys k x.0 y.0 y.1)
    (subst (λ (v : _). Ran m (S v) (S (slice_index_or ys k x.0))) (index_at xs k x.0 x.0 x.1) here))))

-- what is known when all lanes have ended
pub record Ended (setting : Setting) (desk : TableId) (before after : List LaneState) (pass : PassView) : Type 0 where
  pub lanes : AreLanes (module_in setting) setting.config.accept setting.moments setting.to_come (ports_of setting.config) desk before
  pub ran : AllZip (Ran (module_in setting)) before after
  pub joined : AreJoined (map pass_of after) pass
  pub numbers : IsWhole pass → OnlyKin pass

after_length : (m : Module) (before after : List LaneState) → AllZip (Ran m) before after → length after ≡ length before
after_length m [] [] all = refl
after_length m [] (a ∷ after) all = absurd all
after_length m (b ∷ before) [] all = absurd all
after_length m (b ∷ before) (a ∷ after) all = ap suc (after_length m before after all.1)

-- the pairs of a lane's pass, at its end
kin_at : (setting : Setting) (desk : TableId) (before after : List LaneState) (pass : PassView) (e : Ended setting desk before after pass)
    (k : ℕ) (lane : LaneState) → slice_get after k ≡ Some lane → lane.pass.kin ≡ (k, step_of e.lanes.span (length before) k) ∷ []
kin_at setting desk before after pass e k lane at =
    let m = module_in setting in
    let less = within after k lane at in
    let first = item_at before k (omega (arith, less, after_length m before after e.ran)) in
    let port = item_at (ports_of setting.config) k (let h = within before k first.0 first.1 in omega (arith, h, e.lanes.count)) in
    let new = e.lanes.each k port.0 first.0 port.1 first.1 in
    let ran = each_of_zip (Ran m) before after e.ran k first.0 lane first.1 at in
    ran.served.made.kin ∙ ap (λ (p : PassView). p.kin) new.seated

kin_of_pass : (setting : Setting) (desk : TableId) (before after : List LaneState) (pass : PassView) (e : Ended setting desk before after pass)
    (k : ℕ) (p : PassView) → slice_get (map pass_of after) k ≡ Some p → p.kin ≡ (k, step_of e.lanes.span (length before) k) ∷ []
kin_of_pass setting desk before after pass e k p at =
    let lane = map_from pass_of after k p at in
    ap (λ (q : PassView). q.kin) (sym lane.2) ∙ kin_at setting desk before after pass e k lane.0 lane.1

pass_is_whole : (setting : Setting) (desk : TableId) (before after : List LaneState) (pass : PassView) (e : Ended setting desk before after pass) → IsWhole pass
pass_is_whole setting desk before after pass e =
    let m = module_in setting in
    let same : length (map pass_of after) ≡ length before = length-map after pass_of ∙ after_length m before after e.ran in
    whole e.lanes.span (map pass_of after) pass (subst (IsSpan e.lanes.span) (sym same) e.lanes.is_span)
    (λ k p at. kin_of_pass setting desk before after pass e k p at ∙ ap (λ (n : ℕ). (k, step_of e.lanes.span n k) ∷ []) (sym same))
    (λ k less. item_at (map pass_of after) k less)
    e.joined.kin

made_below : (setting : Setting) (desk : TableId) (before after : List LaneState) (pass : PassView) (e : Ended setting desk before after pass) → MadeBelow (length before) pass.seen
made_below setting desk before after pass e place entry at =
    let m = module_in setting in
    let only = e.numbers (pass_is_whole setting desk before after pass e) place entry at in
    let single : (i : ℕ) (q : PassView) → slice_get (map pass_of after) i ≡ Some q → (n : ℕ × ℕ) × (q.kin ≡ n ∷ []) = λ i q there. (_, kin_of_pass setting desk before after pass e i q there) in
    let in_row : slice_get (flat_map (λ (q : PassView). q.kin) (map pass_of after)) only.0 ≡ Some only.1 = ap (λ (kin : List (ℕ × ℕ)). slice_get kin only.0) (sym e.joined.kin) ∙ only.2 in
    let p = pair_of_row (map pass_of after) only.0 only.1 single in_row in
    let less = within (map pass_of after) only.0 p.0 p.1 in
    let pair : (only.0, step_of e.lanes.span (length before) only.0) ∷ [] ≡ only.1 ∷ [] = sym (kin_of_pass setting desk before after pass e only.0 p.0 p.1) ∙ p.2 in
    let number_is : only.0 ≡ entry.pass = cc (pair, only.3) in
    omega (arith, less, number_is, length-map after pass_of, after_length m before after e.ran)

pub all_lanes : (setting : Setting) (desk : TableId) (before after : List LaneState) (pass : PassView) (e : Ended setting desk before after pass)
    → AllLanes setting pass (map pass_of before) before after
all_lanes setting desk before after pass e =
    let m = module_in setting in
    record {
      counted = e.lanes.count;
      seated = length-map before pass_of;
      ran = e.ran;
      each = λ k port s lane at_port at_seat at_lane.
          let new = e.lanes.each k port lane at_port at_lane in
          let s_is : lane.pass ≡ s = some_same lane.pass s (sym (map_at pass_of before k lane at_lane) ∙ at_seat) in
          subst (λ (p : PassView). IsNewLane m setting.config.accept setting.moments (setting.to_come port) k p lane) (sym new.seated ∙ s_is) new;
      as_split = λ k s at_seat.
          let lane = map_from pass_of before k s at_seat in
          let port = item_at (ports_of setting.config) k (let h = within before k lane.0 lane.1 in omega (arith, h, e.lanes.count)) in
          let new = e.lanes.each k port.0 lane.0 port.1 lane.1 in
          let s_is : s ≡ seat desk e.lanes.span (length before) k = sym lane.2 ∙ new.seated in
          (ap (λ (p : PassView). p.seen) s_is, ap number s_is);
      kept = λ k lane at_lane.
          let kin = kin_at setting desk before after pass e k lane at_lane in
          e.joined.own k lane.pass (map_at pass_of after k lane at_lane) 0 (k, step_of e.lanes.span (length before) k) (ap (λ (l : List (ℕ × ℕ)). slice_get l 0) kin);
      legal = e.joined.sound.legal;
      whole = pass_is_whole setting desk before after pass e;
      below = made_below setting desk before after pass e;
    }
  where
    some_same : (a b : PassView) → Some a ≡ Some b → a ≡ b
    some_same a b is = cc

-- each lane counts no more messages than all together
part_of_sum : (lanes : List LaneView) (k : ℕ) (lane : LaneView) → slice_get lanes k ≡ Some lane → message_count lane.reports ≤ lane_sum lanes
part_of_sum [] k lane at = absurd (cc)
part_of_sum (l ∷ lanes) zero lane at = let e : l ≡ lane = cc in let f = ap (λ (v : LaneView). message_count v.reports) e in omega (arith, f)
part_of_sum (l ∷ lanes) (suc k) lane at = let h = part_of_sum lanes k lane at in omega (arith, h)

-- the messages of a lane are few
pub few_messages : OwnTotal → (setting : Setting) (desk : TableId) (before after : List LaneState) (pass : PassView) (e : Ended setting desk before after pass)
    → (k : ℕ) (view : LaneView) → slice_get (map view_of after) k ≡ Some view → message_count view.reports ≤ 2 ^ 62
few_messages total setting desk before after pass e k view at =
    let all = all_lanes setting desk before after pass e in
    let sum : length pass.seen ≡ lane_sum (map view_of after) = counted total setting pass (map pass_of before) before after all ∙ sym (lane_sum_is (map view_of after)) in
    let part = part_of_sum (map view_of after) k view at in
    let few = e.joined.sound.few in
    omega (arith, sum, part, few)

-- the lanes were served
pub served_by : OwnTotal → OwnThere → OwnEvery → WordsAuthorise → ClearWhereGranted
    → (config : Config) (doors doors_after : DoorSide) (seeds : SeedSide) (moments : Option (List ℕ)) (desk : TableId) (before after : List LaneState) (pass : PassView)
    → (e : Ended (record { config = config; seed = seeds.last_seed; to_come = doors.connections; moments = moments }) desk before after pass)
    → doors_after.asked ≡ ports_of config
    → ServedBy doors moments seeds doors_after (map view_of after) pass config
served_by total there every words clear config doors doors_after seeds moments desk before after pass e asked =
    let setting : Setting = record { config = config; seed = seeds.last_seed; to_come = doors.connections; moments = moments } in
    let all = all_lanes setting desk before after pass e in
    record {
      asked = asked;
      headline = headline total there every words clear setting pass (map pass_of before) before after all;
      causes = causes setting pass (map pass_of before) before after all;
    }

-- each new lane is ready to be served
pub ready : (m : Module) (accept : ℕ) (moments : Option (List ℕ)) (to_come : ℕ → Option (List (List ℕ))) (ports : List ℕ) (desk : TableId) (lanes : List LaneState)
    → AreLanes m accept moments to_come ports desk lanes → (k : ℕ) (lane : LaneState) → slice_get lanes k ≡ Some lane → IsReady m desk lane
ready m accept moments to_come ports desk lanes are k lane at =
    let port = item_at ports k (let h = within lanes k lane at in omega (arith, h, are.count)) in
    let new = are.each k port.0 lane port.1 at in
    record {
      least = new.least ∙ ap (λ (n : ℕ). least_for m (place_of n)) (sym new.numbered);
      of_desk = ap (λ (p : PassView). p.desk) new.seated;
      capacity = new.capacity;
      no_key = new.no_key;
      none_out = new.none_out;
      no_report = new.no_report;
      no_fault = new.no_fault;
    }

-- what is made of what is made of the items
pub map_twice : {A B C : Type 0} (f : A → B) (g : B → C) (xs : List A) → map g (map f xs) ≡ map (λ x. g (f x)) xs
map_twice f g [] = refl
map_twice f g (x ∷ xs) = ap (λ (rest : List _). g (f x) ∷ rest) (map_twice f g xs)

-- where the lanes' passes were joined into one, the lanes were served
pub served_some : OwnTotal → OwnThere → OwnEvery → WordsAuthorise → ClearWhereGranted
    → (config : Config) (doors doors_after : DoorSide) (seeds : SeedSide) (moments : Option (List ℕ)) (desk : TableId) (before after : List LaneState) (pass : Option PassView)
    → AreLanes (module_of config seeds.last_seed) config.accept moments doors.connections (ports_of config) desk before
    → AllZip (Ran (module_of config seeds.last_seed)) before after
    → IfSome pass (λ p. AreJoined (map pass_of after) p) → IfSome pass (λ p. IsWhole p → OnlyKin p)
    → doors_after.asked ≡ ports_of config
    → IfSome pass (λ p. ServedBy doors moments seeds doors_after (map view_of after) p config)
served_some total there every words clear config doors doors_after seeds moments desk before after None lanes ran joined numbers asked = tt
served_some total there every words clear config doors doors_after seeds moments desk before after (Some pass) lanes ran joined numbers asked =
    served_by total there every words clear config doors doors_after seeds moments desk before after pass (record { lanes = lanes; ran = ran; joined = joined; numbers = numbers }) asked

-- and the messages of each are few
pub few_some : OwnTotal → (setting : Setting) (desk : TableId) (before after : List LaneState) (pass : Option PassView)
    → AreLanes (module_in setting) setting.config.accept setting.moments setting.to_come (ports_of setting.config) desk before
    → AllZip (Ran (module_in setting)) before after
    → IfSome pass (λ p. AreJoined (map pass_of after) p) → IfSome pass (λ p. IsWhole p → OnlyKin p) → IsSome pass
    → (k : ℕ) (view : LaneView) → slice_get (map view_of after) k ≡ Some view → message_count view.reports ≤ 2 ^ 62
few_some total setting desk before after None lanes ran joined numbers some k view at = absurd (cc)
few_some total setting desk before after (Some pass) lanes ran joined numbers some k view at =
    few_messages total setting desk before after pass (record { lanes = lanes; ran = ran; joined = joined; numbers = numbers }) k view at
