-- The connections of a lane, one after another.
use Rattle.std.proofs.Common.{◌≡◌, ℕ, zero, suc, ◌+◌, ◌-◌, ◌^◌, ◌==◌, min, max, Bool, true, false, not, cond, List, [], ◌∷◌, ◌++◌, length, flat_map, map, Option, Some, refl, sym, ap, subst, ◌∙◌, append_assoc, append-nil, length-append, add-zero, zero-add, arith, rules}
use Rattle.std.specs.List.{AllZip}
use Rattle.std.proofs.lemmas.Grind.{flat_map-append}
use Rattle.std.proofs.lemmas.List.{map-append}
use Rattle.std.proofs.lemmas.List.Elements.{All-push}
use Rattle.std.proofs.lemmas.List.Sums.{sum_by-append}
use Rattle.hsm_auth.specs.declared.entry.Entry.{Entry}
use Rattle.hsm_desk.specs.Passes.{Sound}
use Rattle.hsm_io.specs.Connections.{Breaks, Doorway, Taken, TakesBack, Traffic, silent}
use Rattle.hsm_io.specs.Gates.{GateCall}
use Rattle.hsm_rows.specs.declared.settings.Module.{Module}
use Rattle.hsm_auth.specs.declared.activity.Place.{Place}
use Rattle.hsm_session.specs.declared.serving.ConnEnd.{ConnEnd}
use Rattle.hsm_session.specs.declared.serving.ConnEnd.TheVariants.{Clean, Cut, Short, ReadFault, WriteFault}
use Rattle.hsm_session.specs.declared.serving.Report.{Report}
use Rattle.hsm_lmk.specs.Cache.{Agrees, Kept}
use Rattle.hsm_lmk.specs.Caches.{capacity_of, kept_in}
use Rattle.hsm_session.specs.Connections.{AreCallsFor, EndCause, Scene, Serves, Talks, scene}
use Rattle.hsm_answers.specs.Kept.{IsCacheOf}
use Rattle.hsm_server.specs.Lanes.{AreAllCalls, CountsHits, LaneState, Served, ServesAll, IsServed, IsToldBy, TakesConnections, all_entries, all_reports, bytes_of, fault_count, is_fault, nothing_kept, place_of, message_count, risen}
use Rattle.hsm_server.proofs.Joining.{makes_none, makes_both, clock_none, clock_both, nothing_both}
use Rattle.hsm_server.proofs.Keeping.{hits_more, keeps_more, keeps_none}

-- one more item in each of two lists
zip_push : {A B : Type 0} (R : A → B → Type 0) (xs : List A) (ys : List B) (x : A) (y : B) → AllZip R xs ys → R x y → AllZip R (xs ++ x ∷ []) (ys ++ y ∷ [])
zip_push R [] [] x y all here = (here, tt)
zip_push R [] (b ∷ ys) x y all here = absurd all
zip_push R (a ∷ xs) [] x y all here = absurd all
zip_push R (a ∷ xs) (b ∷ ys) x y all here = (all.0, zip_push R xs ys x y all.1 here)

positive : (n : ℕ) → not (suc n == 0) ≡ true
positive n = search rules

-- a connection whose link had not failed failed exactly where its end is a fault
fault_shown : (before after : ℕ) (last_was_read : Bool) (end : ConnEnd) → before ≡ 0 → EndCause before after last_was_read end → is_fault end ≡ not (after == 0)
fault_shown before after last Clean none cause = rw cause (rw none refl)
fault_shown before after last Cut none cause = rw cause (rw none refl)
fault_shown before after last (Short n) none cause = rw cause (rw none refl)
fault_shown before zero last ReadFault none cause = let rose = cause.0 in absurd (omega (arith, none, rose))
fault_shown before (suc after) last ReadFault none cause = sym (positive after)
fault_shown before zero last WriteFault none cause = let rose = cause.0 in absurd (omega (arith, none, rose))
fault_shown before (suc after) last WriteFault none cause = sym (positive after)

-- a count that rises once more
risen_once : (count times most : ℕ)
    → max (max count (min (count + times) most)) (min (max count (min (count + times) most) + 1) most) ≡ max count (min (count + (times + 1)) most)
risen_once count times most = omega arith

broken_more : (start count after times faults : ℕ) (fault : Bool) → count ≡ risen start times → Breaks count after faults → fault ≡ not (faults == 0)
    → after ≡ risen start (times + cond fault 1 0)
broken_more start count after times zero fault is breaks shown = rw shown (rw (add-zero times) (rw breaks (rw is refl)))
broken_more start count after times (suc n) fault is breaks shown = rw (shown ∙ positive n) (rw breaks (rw is (risen_once start times (2 ^ 64 - 1))))

count_more : (reports : List Report) (report : Report) → fault_count reports + cond (is_fault report.ended) 1 0 ≡ fault_count (reports ++ report ∷ [])
count_more reports report = sym (
    sum_by-append (λ r. cond (is_fault r.ended) 1 0) reports (report ∷ [])
    ∙ ap (λ (n : ℕ). fault_count reports + n) (zero-add (cond (is_fault report.ended) 1 0))
    )

entries_more : (connections : List Served) (served : Served) → all_entries connections ++ served.entries ≡ all_entries (connections ++ served ∷ [])
entries_more connections served =
    sym (flat_map-append (λ s. s.entries) connections (served ∷ []) ∙ ap (λ (last : List (ℕ × Entry)). all_entries connections ++ last) (append-nil served.entries))

calls_none : (number : ℕ) → AreAllCalls number [] []
calls_none number = record { of_each = []; each = tt; joined = refl }

calls_more : (number : ℕ) (connections : List Served) (served : Served) (calls own : List GateCall)
    → AreAllCalls number connections calls → AreCallsFor number (length served.entries) own → AreAllCalls number (connections ++ served ∷ []) (calls ++ own)
calls_more number connections served calls own all last = record {
  of_each = all.of_each ++ own ∷ [];
  each = zip_push (λ (s : Served) (cs : List GateCall). AreCallsFor number (length s.entries) cs) connections all.of_each served own all.each last;
  joined =
      ap (λ (front : List GateCall). front ++ own) all.joined
      ∙ ap (λ (back : List GateCall). flat_map (λ cs. cs) all.of_each ++ back) (sym (append-nil own))
      ∙ sym (flat_map-append (λ (cs : List GateCall). cs) all.of_each (own ∷ []));
}

reports_more : (connections : List Served) (served : Served) → all_reports connections ++ served.report ∷ [] ≡ all_reports (connections ++ served ∷ [])
reports_more connections served = sym (map-append (λ s. s.report) connections (served ∷ []))

messages_more : (connections : List Served) (served : Served) → message_count (all_reports connections) ≡ length (all_entries connections) → served.report.messages ≡ length served.entries
    → message_count (all_reports (connections ++ served ∷ [])) ≡ length (all_entries (connections ++ served ∷ []))
messages_more connections served before now =
    ap (λ (reports : List Report). message_count reports) (sym (reports_more connections served))
    ∙ sum_by-append (λ report. report.messages) (all_reports connections) (served.report ∷ [])
    ∙ ap (λ (n : ℕ). n + message_count (served.report ∷ [])) before
    ∙ ap (λ (n : ℕ). length (all_entries connections) + n) (zero-add served.report.messages ∙ now)
    ∙ sym (length-append (all_entries connections) served.entries)
    ∙ ap (λ (entries : List (ℕ × Entry)). length entries) (entries_more connections served)

-- one more connection at a door that tells
tells_more : (m : Module) (kind : Place) (d e : Doorway) (connections : List Served) (served : Served) (bytes : List ℕ) (rest : List (List ℕ)) (taken : Taken)
    → TakesConnections m kind d e connections → e.to_come ≡ bytes ∷ rest
    → Talks m kind (silent bytes) taken.traffic served.messages served.entries served.report.ended → is_fault served.report.ended ≡ not (taken.faults == 0)
    → TakesConnections m kind d (record { to_come = rest; taken = e.taken ++ taken ∷ [] }) (connections ++ served ∷ [])
tells_more m kind d e connections served bytes rest taken t first talks failed =
    let TalksOf : List ℕ → Type 0 = λ b. Talks m kind (silent b) taken.traffic served.messages served.entries served.report.ended in
    record {
      ended = t.ended ++ taken ∷ [];
      taken = ap (λ (front : List Taken). front ++ taken ∷ []) t.taken ∙ append_assoc d.taken t.ended (taken ∷ []);
      came =
          t.came
          ∙ ap (λ (come : List (List ℕ)). map bytes_of t.ended ++ come) (first ∙ ap (λ (b : List ℕ). b ∷ rest) talks.bytes)
          ∙ sym (append_assoc (map bytes_of t.ended) (bytes_of taken ∷ []) rest)
          ∙ ap (λ (front : List (List ℕ)). front ++ rest) (sym (map-append bytes_of t.ended (taken ∷ [])));
      each = zip_push (IsToldBy m kind) connections t.ended served taken t.each (record { talks = subst TalksOf talks.bytes talks; failed = failed });
    }

-- no connection was served yet
pub serves_none : (m : Module) (s : LaneState) → Sound s.pass → ServesAll m s s []
serves_none m s sound = record {
  number = refl;
  accept = refl;
  least = refl;
  reports = sym (append-nil s.reports);
  counted = refl;
  made = makes_none s.pass sound;
  each = λ k served within. absurd (omega (arith, within));
  clock = clock_none s.last s.moments;
  gate = λ calls is. ([], calls_none s.number, is ∙ ap (λ (cs : List GateCall). Some cs) (sym (append-nil calls)));
  hosts = λ host i placed at. absurd (cc);
  keeps = keeps_none m (place_of s.number) s.cache;
  hits = λ j served at. absurd (cc);
  broken = omega arith;
  told = λ d is. (d, is, record { ended = []; taken = sym (append-nil d.taken); came = refl; each = tt });
}

-- what the lane and a connection over which this passed show
abbrev pub scene_at : LaneState → Option Traffic → Scene
scene_at s traffic = scene s.pass s.last s.moments s.calls traffic s.cache

-- one more connection
pub serves_more : (m : Module) (start s t : LaneState) (connections : List Served) (between : Option Doorway) (broken_between : ℕ) (traffic_before traffic_after : Option Traffic)
    (faults_before faults_after : ℕ) (last_was_read : Bool) (report : Report)
    → ServesAll m start s connections
    → (serves : Serves m (place_of start.number) start.number (scene_at s traffic_before) (scene_at t traffic_after) report)
    → EndCause faults_before faults_after last_was_read report.ended → faults_before ≡ 0
    → ((d : Doorway) → s.doorway ≡ Some d → (bytes : List ℕ) × (rest : List (List ℕ)) × (d.to_come ≡ bytes ∷ rest) × (traffic_before ≡ Some (silent bytes)) × (between ≡ Some (record { to_come = rest; taken = d.taken })))
    → TakesBack between t.doorway traffic_after faults_after
    → broken_between ≡ s.broken → Breaks broken_between t.broken faults_after
    → t.number ≡ s.number → t.accept ≡ s.accept → t.least ≡ s.least → t.reports ≡ s.reports ++ report ∷ []
    → ServesAll m start t (connections ++ (record { messages = serves.messages; entries = serves.entries; report = report }) ∷ [])
serves_more m start s t connections between broken_between traffic_before traffic_after faults_before faults_after last_was_read report a serves cause new comes takes same breaks number accept least reports =
    let served : Served = record { messages = serves.messages; entries = serves.entries; report = report } in
    let kind = place_of start.number in
    let shown = fault_shown faults_before faults_after last_was_read report.ended new cause in
    let entries = entries_more connections served in
    let keeps = keeps_more m kind start.cache s.cache t.cache connections served a.keeps serves.keeps in
    record {
      number = number ∙ a.number;
      accept = accept ∙ a.accept;
      least = least ∙ a.least;
      reports =
          reports
          ∙ ap (λ (front : List Report). front ++ report ∷ []) a.reports
          ∙ append_assoc start.reports (all_reports connections) (report ∷ [])
          ∙ ap (λ (back : List Report). start.reports ++ back) (reports_more connections served);
      counted = messages_more connections served a.counted serves.reported.messages;
      made = rw (← entries) (makes_both start.pass s.pass t.pass (all_entries connections) serves.entries a.made serves.made);
      each = All-push (IsServed m kind) connections served a.each (record { each = serves.each; reported = serves.reported });
      clock = rw (← entries) (clock_both start.last s.last t.last start.moments s.moments t.moments (all_entries connections) serves.entries a.clock serves.clock);
      gate = λ calls is.
          let so_far = a.gate calls is in
          let own = serves.gate _ so_far.2 in (
            so_far.0 ++ own.0,
            calls_more start.number connections served so_far.0 own.0 so_far.1 own.1,
            own.2 ∙ ap (λ (cs : List GateCall). Some cs) (append_assoc calls so_far.0 own.0),
          );
      hosts = λ host. rw (← entries) (nothing_both (all_entries connections) serves.entries (a.hosts host) (serves.hosts host));
      keeps = keeps;
      hits = hits_more m kind (capacity_of start.cache) (kept_in start.cache) connections served a.hits (serves.hits ∙ ap (λ (k : Kept). k.hits) keeps.kept);
      broken =
          broken_more start.broken broken_between t.broken (fault_count (all_reports connections)) faults_after (is_fault report.ended) (same ∙ a.broken) breaks shown
          ∙ ap (λ (times : ℕ). risen start.broken times)
          (count_more (all_reports connections) report ∙ ap (λ (rs : List Report). fault_count rs) (reports_more connections served));
      told = λ d is.
          let e = a.told d is in
          let n = comes e.0 e.1 in
          let w = serves.told (silent n.0) n.3 in
          let taken : Taken = record { traffic = w.0; faults = faults_after } in
          (_, takes _ n.4 w.0 w.1, tells_more m kind d e.0 connections served n.0 n.1 taken e.2 n.2 w.2 shown);
    }

-- the hits of the reports, where the cache would keep 64 keys and kept none at the start
hits_from_none : (m : Module) (start s : LaneState) (connections : List Served) → ServesAll m start s connections → capacity_of start.cache ≡ 64 → kept_in start.cache ≡ nothing_kept
    → CountsHits m (place_of start.number) 64 nothing_kept connections
hits_from_none m start s connections serves capacity none =
    subst (λ (n : ℕ). CountsHits m (place_of start.number) n nothing_kept connections) capacity
    (subst (λ (k : Kept). CountsHits m (place_of start.number) (capacity_of start.cache) k connections) none serves.hits)

-- so many connections were served, and none is out
pub record SoFar (m : Module) (start s : LaneState) (count : ℕ) : Type 0 where
  pub connections : List Served
  pub counted : length connections ≡ count
  pub served : ServesAll m start s connections
  pub none_out : s.is_out ≡ false
  pub no_fault : s.door_fault ≡ false
  pub kept : s.faults ≡ start.faults
  pub agrees : IsCacheOf m s.cache
  pub capacity : capacity_of start.cache ≡ 64
  pub no_key : kept_in start.cache ≡ nothing_kept
  pub hits : CountsHits m (place_of start.number) 64 nothing_kept connections

-- none was served yet
pub far_none : (m : Module) (s : LaneState) → Sound s.pass → s.is_out ≡ false → s.door_fault ≡ false → capacity_of s.cache ≡ 64 → kept_in s.cache ≡ nothing_kept
    → SoFar m s s 0
far_none m s sound out fault capacity none = record {
  connections = [];
  counted = refl;
  served = serves_none m s sound;
  none_out = out;
  no_fault = fault;
  kept = refl;
  agrees = subst (λ (k : Kept). Agrees m.lmks.items k.entries) (sym none) (λ k e within. absurd (omega (arith, within)));
  capacity = capacity;
  no_key = none;
  hits = λ j served at. absurd (cc);
}

-- one more was served
pub far_more : (m : Module) (start s t : LaneState) (count : ℕ) (kind : Place) (between : Option Doorway) (broken_between : ℕ) (traffic_before traffic_after : Option Traffic)
    (faults_before faults_after : ℕ) (last_was_read : Bool) (report : Report)
    → SoFar m start s count → kind ≡ place_of start.number
    → Serves m kind s.number (scene_at s traffic_before) (scene_at t traffic_after) report
    → EndCause faults_before faults_after last_was_read report.ended → faults_before ≡ 0
    → ((d : Doorway) → s.doorway ≡ Some d → (bytes : List ℕ) × (rest : List (List ℕ)) × (d.to_come ≡ bytes ∷ rest) × (traffic_before ≡ Some (silent bytes)) × (between ≡ Some (record { to_come = rest; taken = d.taken })))
    → TakesBack between t.doorway traffic_after faults_after
    → broken_between ≡ s.broken → Breaks broken_between t.broken faults_after
    → t.number ≡ s.number → t.accept ≡ s.accept → t.least ≡ s.least → t.reports ≡ s.reports ++ report ∷ []
    → t.is_out ≡ false → t.door_fault ≡ s.door_fault → t.faults ≡ s.faults → IsCacheOf m t.cache
    → SoFar m start t (count + 1)
far_more m start s t count kind between broken_between traffic_before traffic_after faults_before faults_after last_was_read report f is serves cause new comes takes same breaks number accept least reports out fault faults agrees =
    let at_first = scene_at s traffic_before in
    let at_last = scene_at t traffic_after in
    let of_lane : Serves m (place_of start.number) start.number at_first at_last report =
    subst (λ (n : ℕ). Serves m (place_of start.number) n at_first at_last report) f.served.number
    (subst (λ (k : Place). Serves m k s.number at_first at_last report) is serves) in
    let served : Served = record { messages = of_lane.messages; entries = of_lane.entries; report = report } in
    let all =
    serves_more m start s t f.connections between broken_between traffic_before traffic_after faults_before faults_after last_was_read report
    f.served of_lane cause new comes takes same breaks number accept least reports in
    record {
      connections = f.connections ++ served ∷ [];
      counted = length-append f.connections (served ∷ []) ∙ ap (λ (n : ℕ). n + 1) f.counted;
      served = all;
      none_out = out;
      no_fault = fault ∙ f.no_fault;
      kept = faults ∙ f.kept;
      agrees = agrees;
      capacity = f.capacity;
      no_key = f.no_key;
      hits = hits_from_none m start t (f.connections ++ served ∷ []) all f.capacity f.no_key;
    }
