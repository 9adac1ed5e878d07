-- The theorem on serving.
--
-- Whatever the lanes' threads do and however their streams are cut, each connection is written the framed answers that the command table gives to its
-- messages, each at its own single entry in one legal history of bookings, authorisations and cancellations, and an answer shows a clear key or PIN only
-- in a marked field whose activity was granted at that entry.
use Rattle.std.specs.Prelude.{◌≡◌, ◌<◌, ◌≤◌, ◌⊎◌, ℕ, false, List, [], ◌++◌, length, map, sum_by, slice_get, All, Option, Some}
use Rattle.std.specs.List.{AllZip}
use Rattle.hsm_auth.specs.declared.activity.Activity.{Activity}
use Rattle.hsm_auth.specs.declared.entry.Ask.TheVariants.{Authorise}
use Rattle.hsm_auth.specs.declared.entry.Entry.{Entry}
use Rattle.hsm_auth.specs.History.{IsLegal}
use Rattle.hsm_auth.specs.Own.{own}
use Rattle.hsm_answers.specs.Clear.{Authorises, IsGrantedAt, ShowsClear}
use Rattle.hsm_auth.specs.declared.activity.Place.TheVariants.{Console}
use Rattle.hsm_config.specs.declared.configuration.Config.{Config}
use Rattle.hsm_config.specs.Configs.{module_of}
use Rattle.hsm_desk.specs.Passes.{PassView, IsWhole}
use Rattle.hsm_io.specs.Connections.{Doorway, Taken}
use Rattle.hsm_rows.specs.declared.settings.Module.{Module}
use Rattle.hsm_rows.specs.Reading.{ReadText}
use Rattle.hsm_rows.specs.Table.{RowShape}
use Rattle.hsm_server.specs.Lanes.{CountsHits, IsServed, LaneView, Served, all_entries, all_reports, bytes_of, nothing_kept, place_of, message_count}
use Rattle.hsm_session.specs.Connections.{HaveMoments, Hears, Leaves, WritesAnswers, framed_answers}
use Rattle.hsm_answers.specs.Messages.{least_for}
use Rattle.hsm_config.specs.Configs.{ports_of}

-- What serving was given: the configuration and the seed, and where the bench tells them the connections that were to come at each port and the
-- moments of the clocks.
pub record Setting : Type 0 where
  pub config : Config
  pub seed : List ℕ
  pub to_come : ℕ → Option (List (List ℕ))
  pub moments : Option (List ℕ)

-- the module that serves
abbrev pub module_in : Setting → Module
module_in setting = module_of setting.config setting.seed

-- What holds of each lane: of its number, its port, what it shows in the end, and the connections that it served.
abbrev pub OfEach : Setting → List LaneView → List (List Served) → (ℕ → ℕ → LaneView → List Served → Type 0) → Type 0
OfEach setting lanes connections P =
    (number port : ℕ) (lane : LaneView) (served : List Served)
    → slice_get (ports_of setting.config) number ≡ Some port → slice_get lanes number ≡ Some lane → slice_get connections number ≡ Some served
    → P number port lane served

-- Where the bench told the connections to come at a lane's port, the lane's door tells in the end which are still to come and which were taken back.
abbrev pub WhereTold : Option (List (List ℕ)) → LaneView → (List (List ℕ) → Doorway → Type 0) → Type 0
WhereTold to_come lane P = (came : List (List ℕ)) → to_come ≡ Some came → (door : Doorway) × (lane.doorway ≡ Some door) × P came door

-- One legal history: that of the pass handed back, which has seen all of it.
pub record IsOneHistory (pass : PassView) : Type 0 where
  pub legal : IsLegal pass.seen
  pub whole : IsWhole pass

-- What was written to a connection are the framed answers to its messages, at their entries; after a failed write a part from their front.
abbrev pub IsWritten : Module → ℕ → Served → Taken → Type 0
IsWritten m number served taken =
    WritesAnswers taken.traffic.written (framed_answers m (place_of number) served.messages served.entries) served.report.ended

-- Each lane: it booked with its own number. The entries of that number are those of its connections' messages, one for each, in their order, with what
-- the message asks, at the moments that its clock was to give; and each connection was written the answers at these entries. A report counts how often
-- an opened key was found by the end of its connection, among the 64 that the lane keeps from one connection to the next.
pub record LaneRuns (setting : Setting) (history : List Entry) (number port : ℕ) (lane : LaneView) (served : List Served) : Type 0 where
  pub entries : own number history ≡ all_entries served
  pub each : All (IsServed (module_in setting) (place_of number)) served
  pub reports : lane.reports ≡ all_reports served
  pub hits : CountsHits (module_in setting) (place_of number) 64 nothing_kept served
  pub moments : (c : List ℕ) → setting.moments ≡ Some c → HaveMoments c (own number history)
  pub written : WhereTold (setting.to_come port) lane (λ came door. AllZip (IsWritten (module_in setting) number) served door.taken)

-- No other entry: each entry has the number of a lane, and there are as many as the reports count messages.
pub record HasNoOther (lanes : List LaneView) (history : List Entry) : Type 0 where
  pub numbers : (place : ℕ) (entry : Entry) → slice_get history place ≡ Some entry → entry.pass < length lanes
  pub counted : length history ≡ sum_by (λ lane. message_count lane.reports) lanes

-- The bytes read from a connection are its messages, framed, and end as its report says; where its input ended nothing is left to read.
pub record IsHeard (m : Module) (number : ℕ) (served : Served) (taken : Taken) : Type 0 where
  pub messages : Hears (least_for m (place_of number)) taken.traffic.was_read served.messages served.report.ended
  pub left : Leaves taken.traffic.left served.report.ended

-- Messages: those of a connection are the messages of the bytes that were read.
abbrev pub LaneHears : Setting → ℕ → ℕ → LaneView → List Served → Type 0
LaneHears setting number port lane served = WhereTold (setting.to_come port) lane (λ came door. AllZip (IsHeard (module_in setting) number) served door.taken)

-- Connections: the lane served the first that were to come at its port, in their order, and the rest are still to come. Without a failure of its door it
-- served all, or as many as are accepted.
pub record ServesInOrder (setting : Setting) (number port : ℕ) (lane : LaneView) (served : List Served) : Type 0 where
  pub most : length served ≤ setting.config.accept
  pub order : WhereTold (setting.to_come port) lane (λ came door. came ≡ map bytes_of door.taken ++ door.to_come)
  pub counted : WhereTold (setting.to_come port) lane (λ came door. length door.taken ≡ length served)
  pub all : lane.door_fault ≡ false → WhereTold (setting.to_come port) lane (λ came door. (door.to_come ≡ []) ⊎ (length served ≡ setting.config.accept))

-- The message is one of a connection of this lane, and was answered at this place with this entry.
pub record IsAnsweredAt (connections : List (List Served)) (number : ℕ) (message : List ℕ) (place : ℕ) (entry : Entry) : Type 0 where
  pub lane : List Served
  pub lane_there : slice_get connections number ≡ Some lane
  pub connection : ℕ
  pub served : Served
  pub served_there : slice_get lane connection ≡ Some served
  pub index : ℕ
  pub message_there : slice_get served.messages index ≡ Some message
  pub entry_there : slice_get served.entries index ≡ Some (place, entry)

-- The entry at this place is that of a text of the console, an `A` that names the activity and the minutes and bears both officers' words.
pub record IsByOfficers (m : Module) (connections : List (List Served)) (place : ℕ) (entry : Entry) (activity : Activity) (minutes : ℕ) : Type 0 where
  pub message : List ℕ
  pub answered : IsAnsweredAt connections 0 message place entry
  pub words : Authorises m Console message activity minutes

-- The entry of an answer that shows a clear key or PIN was granted: it is answered `Use`, it needs the activity of the row's mark, and a grant that covers the
-- activity is live just before it. An earlier entry gave that grant, no entry between ends it, and it is that of a text with both officers' words.
pub record IsGrantedBy (m : Module) (connections : List (List Served)) (history : List Entry) (place : ℕ) (entry : Entry) (row : RowShape) (read : ReadText) : Type 0 where
  pub at_entry : IsGrantedAt row read history place entry
  pub by_officers : IsByOfficers m connections at_entry.giver at_entry.given.entry at_entry.grant.activity at_entry.given.minutes

-- Clear fields: each authorisation has the console's number and is by both officers' words, and an answer shows a clear key or PIN only where that was granted.
pub record ShowsGranted (m : Module) (connections : List (List Served)) (history : List Entry) : Type 0 where
  pub console : (place : ℕ) (entry : Entry) (activity : Activity) (minutes : ℕ) → slice_get history place ≡ Some entry → entry.ask ≡ Authorise activity minutes
      → (entry.pass ≡ 0) × IsByOfficers m connections place entry activity minutes
  pub granted : (number : ℕ) (message : List ℕ) (place : ℕ) (entry : Entry) → IsAnsweredAt connections number message place entry
      → (s : ShowsClear m (place_of number) message entry.granted) → IsGrantedBy m connections history place entry s.row s.read

-- The theorem in six parts, for the connections that each lane served.
pub record Headline (setting : Setting) (lanes : List LaneView) (pass : PassView) : Type 0 where
  pub connections : List (List Served)
  pub for_each : length connections ≡ length lanes
  pub one_a_port : length lanes ≡ length (ports_of setting.config)
  pub one_history : IsOneHistory pass
  pub each_lane : OfEach setting lanes connections (LaneRuns setting pass.seen)
  pub no_other_entry : HasNoOther lanes pass.seen
  pub messages : OfEach setting lanes connections (LaneHears setting)
  pub in_order : OfEach setting lanes connections (ServesInOrder setting)
  pub clear_fields : ShowsGranted (module_in setting) connections pass.seen
