-- What the runs of all lanes come to.
use Rattle.std.proofs.Common.{◌≡◌, ℕ, zero, suc, ◌+◌, ◌≤◌, ◌⊎◌, false, Bool, IsFalse, List, [], ◌∷◌, ◌++◌, length, map, All, sum_by, slice_get, Some, refl, sym, ap, subst, ◌∙◌, arith, rules}
use Rattle.std.specs.List.{AllZip}
use Rattle.std.proofs.lemmas.List.{length-map}
use Rattle.std.proofs.lemmas.List.Recursion.{is_sum_by}
use Rattle.hsm_auth.specs.declared.entry.Entry.{Entry}
use Rattle.hsm_auth.specs.History.{IsLegal}
use Rattle.hsm_auth.specs.Own.{MadeBelow, own, own_total}
use Rattle.hsm_desk.specs.Passes.{PassView, IsWhole, number}
use Rattle.hsm_io.specs.Connections.{Doorway, Taken}
use Rattle.hsm_io.specs.Outside.{HasCause}
use Rattle.hsm_rows.specs.declared.settings.Module.{Module}
use Rattle.hsm_session.specs.declared.serving.Report.{Report}
use Rattle.hsm_session.specs.Connections.{AuthoriseNothing, HaveMoments}
use Rattle.hsm_server.specs.Lanes.{CountsHits, IsServed, IsToldBy, LaneState, LaneView, Ran, Served, TakesConnections, all_entries, all_reports, bytes_of, fault_count, nothing_kept, place_of, message_count, risen}
use Rattle.hsm_program.specs.Headline.{Headline, IsHeard, IsWritten, LaneHears, LaneRuns, OfEach, ServesInOrder, Setting, WhereTold, module_in}
use Rattle.hsm_program.specs.Lanes.{IsNewLane}
use Rattle.hsm_program.specs.Serving.{HasCauses, IsNamed}
use Rattle.hsm_config.specs.Configs.{ports_of}
use Rattle.hsm_program.proofs.ClearFields.{AllKnown, ClearWhereGranted, OwnEvery, OwnThere, WordsAuthorise, clear_fields}
use Rattle.hsm_program.proofs.Lists.{item_at, map_from, within, zip_length, zip_map, zip_of_map}

-- a lane as it shows itself in the end
abbrev pub view_of : LaneState → LaneView
view_of lane = record { reports = lane.reports; door_fault = lane.door_fault; doorway = lane.doorway; faults = lane.faults; broken = lane.broken }

-- where all entries have numbers below k, the own entries of these numbers together are as many
abbrev pub OwnTotal : Type 0
OwnTotal = (k : ℕ) (h : List Entry) → MadeBelow k h → length h ≡ own_total k h

-- what a lane's door told, and tells in the end
record Tolds (m : Module) (k : ℕ) (came : List (List ℕ)) (connections : List Served) (door : Doorway) : Type 0 where
  order : came ≡ map bytes_of door.taken ++ door.to_come
  each : AllZip (IsToldBy m (place_of k)) connections door.taken

-- one lane that served from the start
pub record OneLane (setting : Setting) (history : List Entry) (k port : ℕ) (pass : PassView) (before after : LaneState) : Type 0 where
  pub new : IsNewLane (module_in setting) setting.config.accept setting.moments (setting.to_come port) k pass before
  pub unseen : pass.seen ≡ []
  pub numbered : number pass ≡ k
  pub ran : Ran (module_in setting) before after
  pub kept : own k history ≡ own k after.pass.seen

false_is : {b : Bool} → b ≡ false → IsFalse b
false_is is = search rules

own_none : (k : ℕ) (seen : List Entry) → seen ≡ [] → own k seen ≡ []
own_none k seen none = ap (own k) none

entries_of : (setting : Setting) (history : List Entry) (k port : ℕ) (pass : PassView) (before after : LaneState) (one : OneLane setting history k port pass before after)
    → own k history ≡ all_entries one.ran.connections
entries_of setting history k port pass before after one =
    let of_pass : number before.pass ≡ k = ap number one.new.seated ∙ one.numbered in
    let unseen : before.pass.seen ≡ [] = ap (λ (p : PassView). p.seen) one.new.seated ∙ one.unseen in
    one.kept
    ∙ ap (λ (n : ℕ). own n after.pass.seen) (sym of_pass)
    ∙ one.ran.served.made.own
    ∙ ap (λ (entries : List (ℕ × Entry)). entries ++ all_entries one.ran.connections) (own_none (number before.pass) before.pass.seen unseen)

reports_of : (setting : Setting) (history : List Entry) (k port : ℕ) (pass : PassView) (before after : LaneState) (one : OneLane setting history k port pass before after)
    → after.reports ≡ all_reports one.ran.connections
reports_of setting history k port pass before after one =
    one.ran.served.reports ∙ ap (λ (front : List _). front ++ all_reports one.ran.connections) one.new.no_report

told_of : (setting : Setting) (history : List Entry) (k port : ℕ) (pass : PassView) (before after : LaneState) (one : OneLane setting history k port pass before after)
    → WhereTold (setting.to_come port) (view_of after) (λ came door. Tolds (module_in setting) k came one.ran.connections door)
told_of setting history k port pass before after one came is =
    let m = module_in setting in
    let told = one.ran.served.told (record { to_come = came; taken = [] }) (one.new.doorway came is) in
    let tells : TakesConnections m (place_of before.number) (record { to_come = came; taken = [] }) told.0 one.ran.connections = told.2 in (
      told.0,
      told.1,
      record {
        order = tells.came ∙ ap (λ (taken : List Taken). map bytes_of taken ++ told.0.to_come) (sym tells.taken);
        each = subst (λ (taken : List Taken). AllZip (IsToldBy m (place_of k)) one.ran.connections taken) (sym tells.taken)
            (subst (λ (n : ℕ). AllZip (IsToldBy m (place_of n)) one.ran.connections tells.ended) one.new.numbered tells.each);
      },
    )

pub lane_runs : (setting : Setting) (history : List Entry) (k port : ℕ) (pass : PassView) (before after : LaneState) (one : OneLane setting history k port pass before after)
    → LaneRuns setting history k port (view_of after) one.ran.connections
lane_runs setting history k port pass before after one =
    let m = module_in setting in
    let entries = entries_of setting history k port pass before after one in
    record {
      entries = entries;
      each = subst (λ (n : ℕ). All (IsServed m (place_of n)) one.ran.connections) one.new.numbered one.ran.served.each;
      reports = reports_of setting history k port pass before after one;
      hits = subst (λ (n : ℕ). CountsHits m (place_of n) 64 nothing_kept one.ran.connections) one.new.numbered one.ran.hits;
      moments = λ c is. subst (HaveMoments c) (sym entries) (one.ran.served.clock.told c (one.new.clock ∙ is)).0;
      written = λ came is.
          let t = told_of setting history k port pass before after one came is in
          (t.0, t.1, zip_map (IsToldBy m (place_of k)) (IsWritten m k) one.ran.connections t.0.taken (λ served taken told. told.talks.says) t.2.each);
    }

pub lane_hears : (setting : Setting) (history : List Entry) (k port : ℕ) (pass : PassView) (before after : LaneState) (one : OneLane setting history k port pass before after)
    → LaneHears setting k port (view_of after) one.ran.connections
lane_hears setting history k port pass before after one = λ came is.
    let m = module_in setting in
    let t = told_of setting history k port pass before after one came is in
    (t.0, t.1, zip_map (IsToldBy m (place_of k)) (IsHeard m k) one.ran.connections t.0.taken (λ served taken told. record { messages = told.talks.hears; left = told.talks.leaves }) t.2.each)

pub lane_in_order : (setting : Setting) (history : List Entry) (k port : ℕ) (pass : PassView) (before after : LaneState) (one : OneLane setting history k port pass before after)
    → ServesInOrder setting k port (view_of after) one.ran.connections
lane_in_order setting history k port pass before after one =
    let m = module_in setting in
    record {
      most = subst (λ (n : ℕ). length one.ran.connections ≤ n) one.new.accepts one.ran.most;
      order = λ came is. let t = told_of setting history k port pass before after one came is in (t.0, t.1, t.2.order);
      counted = λ came is.
          let t = told_of setting history k port pass before after one came is in
          (t.0, t.1, zip_length (IsToldBy m (place_of k)) one.ran.connections t.0.taken t.2.each);
      all = λ clean came is.
          let t = told_of setting history k port pass before after one came is in
          (t.0, t.1, subst (λ (n : ℕ). (t.0.to_come ≡ []) ⊎ (length one.ran.connections ≡ n)) one.new.accepts (one.ran.complete (false_is clean) t.0 t.1));
    }

pub lane_causes : (setting : Setting) (history : List Entry) (k port : ℕ) (pass : PassView) (before after : LaneState) (one : OneLane setting history k port pass before after)
    → HasCauses (setting.to_come port) (view_of after)
lane_causes setting history k port pass before after one =
    let m = module_in setting in
    let reports = reports_of setting history k port pass before after one in
    record {
      broken = one.ran.served.broken
          ∙ ap (λ (n : ℕ). risen n (fault_count (all_reports one.ran.connections))) one.new.broken
          ∙ ap (λ (rs : List Report). risen 0 (fault_count rs)) (sym reports);
      door = subst (λ (n : ℕ). HasCause n after.faults after.door_fault) one.new.faults one.ran.fault;
      named = λ came is.
          let t = told_of setting history k port pass before after one came is in (
            t.0,
            t.1,
            subst (λ (rs : List Report). AllZip IsNamed rs t.0.taken) (sym reports)
                (zip_of_map (λ (served : Served). served.report) (IsToldBy m (place_of k)) IsNamed one.ran.connections t.0.taken (λ served taken told. told.failed) t.2.each),
          );
    }

-- ---- all lanes together

-- the lanes before and after, item by item, with the port and the pass of each
pub record AllLanes (setting : Setting) (pass : PassView) (seats : List PassView) (before after : List LaneState) : Type 0 where
  pub counted : length before ≡ length (ports_of setting.config)
  pub seated : length seats ≡ length before
  pub ran : AllZip (Ran (module_in setting)) before after
  pub each : (k port : ℕ) (seat : PassView) (lane : LaneState) → slice_get (ports_of setting.config) k ≡ Some port → slice_get seats k ≡ Some seat → slice_get before k ≡ Some lane
      → IsNewLane (module_in setting) setting.config.accept setting.moments (setting.to_come port) k seat lane
  pub as_split : (k : ℕ) (seat : PassView) → slice_get seats k ≡ Some seat → (seat.seen ≡ []) × (number seat ≡ k)
  pub kept : (k : ℕ) (lane : LaneState) → slice_get after k ≡ Some lane → own k pass.seen ≡ own k lane.pass.seen
  pub legal : IsLegal pass.seen
  pub whole : IsWhole pass
  pub below : MadeBelow (length before) pass.seen

-- the connections that each lane served
abbrev pub connections_of : (m : Module) (before after : List LaneState) → AllZip (Ran m) before after → List (List Served)
connections_of m [] [] all = []
connections_of m [] (a ∷ after) all = absurd all
connections_of m (b ∷ before) [] all = absurd all
connections_of m (b ∷ before) (a ∷ after) all = all.0.connections ∷ connections_of m before after all.1

pub connections_length : (m : Module) (before after : List LaneState) (all : AllZip (Ran m) before after) → length (connections_of m before after all) ≡ length before
connections_length m [] [] all = refl
connections_length m [] (a ∷ after) all = absurd all
connections_length m (b ∷ before) [] all = absurd all
connections_length m (b ∷ before) (a ∷ after) all = ap suc (connections_length m before after all.1)

-- one lane of all
record Picked (m : Module) (before after : List LaneState) (all : AllZip (Ran m) before after) (k : ℕ) (served : List Served) : Type 0 where
  first : LaneState
  first_there : slice_get before k ≡ Some first
  last : LaneState
  last_there : slice_get after k ≡ Some last
  ran : Ran m first last
  same : served ≡ ran.connections

picked : (m : Module) (before after : List LaneState) (all : AllZip (Ran m) before after) (k : ℕ) (served : List Served)
    → slice_get (connections_of m before after all) k ≡ Some served → Picked m before after all k served
picked m [] [] all k served at = absurd (cc)
picked m [] (a ∷ after) all k served at = absurd all
picked m (b ∷ before) [] all k served at = absurd all
picked m (b ∷ before) (a ∷ after) all zero served at = let e : all.0.connections ≡ served = cc in
    record { first = b; first_there = refl; last = a; last_there = refl; ran = all.0; same = sym e }
picked m (b ∷ before) (a ∷ after) all (suc k) served at =
    let p = picked m before after all.1 k served at in
    record { first = p.first; first_there = p.first_there; last = p.last; last_there = p.last_there; ran = p.ran; same = p.same }

-- one lane of all, with its seat
record Standing (setting : Setting) (history : List Entry) (k port : ℕ) (view : LaneView) (served : List Served) : Type 0 where
  seat : PassView
  first : LaneState
  last : LaneState
  one : OneLane setting history k port seat first last
  shown : view_of last ≡ view
  same : one.ran.connections ≡ served

standing : (setting : Setting) (pass : PassView) (seats : List PassView) (before after : List LaneState) (all : AllLanes setting pass seats before after)
    (k port : ℕ) (view : LaneView) (served : List Served) → slice_get (ports_of setting.config) k ≡ Some port → slice_get (map view_of after) k ≡ Some view
    → slice_get (connections_of (module_in setting) before after all.ran) k ≡ Some served → Standing setting pass.seen k port view served
standing setting pass seats before after all k port view served at_port at_view at_served =
    let m = module_in setting in
    let p = picked m before after all.ran k served at_served in
    let less = within before k p.first p.first_there in
    let s = item_at seats k (omega (arith, all.seated, less)) in
    let a = map_from view_of after k view at_view in
    let last_is : p.last ≡ a.0 = some_same p.last a.0 (sym p.last_there ∙ a.1) in
    let seated = all.as_split k s.0 s.1 in
    record {
      seat = s.0;
      first = p.first;
      last = p.last;
      one = record { new = all.each k port s.0 p.first at_port s.1 p.first_there; unseen = seated.0; numbered = seated.1; ran = p.ran; kept = all.kept k p.last p.last_there };
      shown = ap view_of last_is ∙ a.2;
      same = sym p.same;
    }
  where
    some_same : (a b : LaneState) → Some a ≡ Some b → a ≡ b
    some_same a b is = cc

-- what holds of each lane that served from the start holds of each
of_each : (setting : Setting) (pass : PassView) (seats : List PassView) (before after : List LaneState) (all : AllLanes setting pass seats before after)
    (P : ℕ → ℕ → LaneView → List Served → Type 0)
    → ((k port : ℕ) (seat : PassView) (first last : LaneState) (one : OneLane setting pass.seen k port seat first last) → P k port (view_of last) one.ran.connections)
    → OfEach setting (map view_of after) (connections_of (module_in setting) before after all.ran) P
of_each setting pass seats before after all P holds k port view served at_port at_view at_served =
    let s = standing setting pass seats before after all k port view served at_port at_view at_served in
    subst (λ (v : LaneView). P k port v served) s.shown
    (subst (λ (c : List Served). P k port (view_of s.last) c) s.same (holds k port s.seat s.first s.last s.one))

-- how many messages the lanes count together
abbrev pub lane_sum : List LaneView → ℕ
lane_sum [] = 0
lane_sum (lane ∷ lanes) = message_count lane.reports + lane_sum lanes

pub lane_sum_is : (lanes : List LaneView) → lane_sum lanes ≡ sum_by (λ lane. message_count lane.reports) lanes
lane_sum_is lanes = is_sum_by lane_sum (λ lane. message_count lane.reports) refl (λ x xs. refl) lanes

totals : (history : List Entry) (first : ℕ) (lanes : List LaneView)
    → ((k : ℕ) (lane : LaneView) → slice_get lanes k ≡ Some lane → length (own (first + k) history) ≡ message_count lane.reports)
    → own_total (first + length lanes) history ≡ own_total first history + lane_sum lanes
totals history first [] each = let e : first + 0 ≡ first = omega arith in ap (λ (n : ℕ). own_total n history) e ∙ (let f : own_total first history ≡ own_total first history + 0 = omega arith in f)
totals history first (lane ∷ lanes) each =
    let here : length (own first history) ≡ message_count lane.reports =
    ap (λ (n : ℕ). length (own n history)) (let e : first ≡ first + 0 = omega arith in e) ∙ each 0 lane refl in
    let rest = totals history (suc first) lanes (λ k l at.
    ap (λ (n : ℕ). length (own n history)) (let e : suc first + k ≡ first + suc k = omega arith in e) ∙ each (suc k) l at) in
    ap (λ (n : ℕ). own_total n history) (let e : first + suc (length lanes) ≡ suc first + length lanes = omega arith in e)
    ∙ rest
    ∙ (let e : (own_total first history + length (own first history)) + lane_sum lanes ≡ own_total first history + (message_count lane.reports + lane_sum lanes) = omega (arith, here) in e)

-- the entries together are as many as the messages that all lanes count
pub counted : OwnTotal → (setting : Setting) (pass : PassView) (seats : List PassView) (before after : List LaneState) (all : AllLanes setting pass seats before after)
    → length pass.seen ≡ sum_by (λ lane. message_count lane.reports) (map view_of after)
counted total setting pass seats before after all =
    let m = module_in setting in
    let same : length (map view_of after) ≡ length before = length-map after view_of ∙ zip_length (Ran m) before after all.ran in
    let each : (k : ℕ) (view : LaneView) → slice_get (map view_of after) k ≡ Some view → length (own (0 + k) pass.seen) ≡ message_count view.reports = λ k view at.
    let less = within (map view_of after) k view at in
    let port = item_at (ports_of setting.config) k (omega (arith, less, same, all.counted)) in
    let conns = item_at (connections_of m before after all.ran) k (omega (arith, less, same, connections_length m before after all.ran)) in
    let s = standing setting pass seats before after all k port.0 view conns.0 port.1 at conns.1 in
    let runs = lane_runs setting pass.seen k port.0 s.seat s.first s.last s.one in
    ap (λ (n : ℕ). length (own n pass.seen)) (let e : 0 + k ≡ k = omega arith in e)
    ∙ ap (λ (entries : List (ℕ × Entry)). length entries) runs.entries
    ∙ sym s.one.ran.served.counted
    ∙ ap (λ (reports : List Report). message_count reports) (sym runs.reports)
    ∙ ap (λ (v : LaneView). message_count v.reports) s.shown in
    let sums = totals pass.seen 0 (map view_of after) each in
    total (length before) pass.seen all.below
    ∙ ap (λ (n : ℕ). own_total n pass.seen) (sym same ∙ (let e : length (map view_of after) ≡ 0 + length (map view_of after) = omega arith in e))
    ∙ sums
    ∙ (let e : 0 + lane_sum (map view_of after) ≡ lane_sum (map view_of after) = omega arith in e)
    ∙ lane_sum_is (map view_of after)

-- what is known of all lanes for the clear fields
known : (setting : Setting) (pass : PassView) (seats : List PassView) (before after : List LaneState) (all : AllLanes setting pass seats before after)
    → AllKnown (module_in setting) pass.seen (connections_of (module_in setting) before after all.ran)
known setting pass seats before after all =
    let m = module_in setting in
    let conns = connections_of m before after all.ran in
    record {
      legal = all.legal;
      numbers = λ place entry at.
          let below = all.below place entry at in
          item_at conns entry.pass (omega (arith, below, connections_length m before after all.ran));
      lanes = λ k served at.
          let less = within conns k served at in
          let n = connections_length m before after all.ran in
          let port = item_at (ports_of setting.config) k (omega (arith, less, n, all.counted)) in
          let view = item_at (map view_of after) k (omega (arith, less, n, length-map after view_of, zip_length (Ran m) before after all.ran)) in
          let s = standing setting pass seats before after all k port.0 view.0 served port.1 view.1 at in
          let runs = lane_runs setting pass.seen k port.0 s.seat s.first s.last s.one in
          record {
            entries = runs.entries ∙ ap all_entries s.same;
            each = subst (λ (c : List Served). All (IsServed m (place_of k)) c) s.same runs.each;
            hosts = λ host.
                subst (λ (c : List Served). AuthoriseNothing (all_entries c)) s.same (s.one.ran.served.hosts (ap place_of s.one.new.numbered ∙ host));
          };
    }

-- the theorem on serving
pub headline : OwnTotal → OwnThere → OwnEvery → WordsAuthorise → ClearWhereGranted
    → (setting : Setting) (pass : PassView) (seats : List PassView) (before after : List LaneState) (all : AllLanes setting pass seats before after)
    → Headline setting (map view_of after) pass
headline total there every words clear setting pass seats before after all =
    let m = module_in setting in
    let same : length (map view_of after) ≡ length before = length-map after view_of ∙ zip_length (Ran m) before after all.ran in
    record {
      connections = connections_of m before after all.ran;
      for_each = connections_length m before after all.ran ∙ sym same;
      one_a_port = same ∙ all.counted;
      one_history = record { legal = all.legal; whole = all.whole };
      each_lane = of_each setting pass seats before after all (LaneRuns setting pass.seen) (lane_runs setting pass.seen);
      no_other_entry = record {
        numbers = λ place entry at. let below = all.below place entry at in omega (arith, below, same);
        counted = counted total setting pass seats before after all;
      };
      messages = of_each setting pass seats before after all (LaneHears setting) (lane_hears setting pass.seen);
      in_order = of_each setting pass seats before after all (ServesInOrder setting) (lane_in_order setting pass.seen);
      clear_fields = clear_fields there every words clear m pass.seen (connections_of m before after all.ran) (known setting pass seats before after all);
    }

-- and the causes of the faults
pub causes : (setting : Setting) (pass : PassView) (seats : List PassView) (before after : List LaneState) (all : AllLanes setting pass seats before after)
    → (k port : ℕ) (view : LaneView) → slice_get (ports_of setting.config) k ≡ Some port → slice_get (map view_of after) k ≡ Some view → HasCauses (setting.to_come port) view
causes setting pass seats before after all k port view at_port at_view =
    let m = module_in setting in
    let less = within (map view_of after) k view at_view in
    let same : length (map view_of after) ≡ length before = length-map after view_of ∙ zip_length (Ran m) before after all.ran in
    let conns = item_at (connections_of m before after all.ran) k (omega (arith, less, same, connections_length m before after all.ran)) in
    let s = standing setting pass seats before after all k port view conns.0 at_port at_view conns.1 in
    subst (λ (v : LaneView). HasCauses (setting.to_come port) v) s.shown (lane_causes setting pass.seen k port s.seat s.first s.last s.one)
