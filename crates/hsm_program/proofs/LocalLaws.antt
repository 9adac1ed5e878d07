-- The commands other than `serve`.
use Rattle.std.proofs.Common.{◌≡◌, ℕ, List, [], Ok, Option, None, sym, subst}
use Rattle.hsm_desk.specs.Passes.{PassView}
use Rattle.hsm_server.specs.Lanes.{LaneView}
use Rattle.hsm_program.specs.declared.command.Command.{Command}
use Rattle.hsm_program.specs.declared.command.Command.TheVariants.{Serve, Script, Check, Explain, Make}
use Rattle.hsm_program.specs.declared.outcome.Outcome.{Outcome}
use Rattle.hsm_program.specs.declared.outcome.Outcome.TheVariants.{SeedFault, Usage}
use Rattle.hsm_program.specs.Runs.{AnswersWords, HasStatus}
use Rattle.hsm_program.specs.Serving.{HasLanes, IsStatus, OfServe, OtherThanServe}
use Rattle.hsm_program.specs.Words.{Asked, IsLocal, ReadsWords, asked, usage, serve, script, check, explain, make}

-- the words ask for such a command
abbrev pub AsksLocal : Asked → Type 0
AsksLocal (usage place) = ⊥
AsksLocal (serve config) = ⊥
AsksLocal (script config file) = Unit {0}
AsksLocal (check config) = Unit {0}
AsksLocal (explain row) = Unit {0}
AsksLocal (make count seed) = Unit {0}

pub asks_local : (words : List (List ℕ)) (command : Command) → ReadsWords words (Ok command) → IsLocal command → AsksLocal (asked words)
asks_local words (Serve config) reads local = absurd local
asks_local words (Script config file) reads local = subst AsksLocal (sym reads.3) tt
asks_local words (Check config) reads local = subst AsksLocal (sym reads.2) tt
asks_local words (Explain row) reads local = subst AsksLocal (sym reads.1) tt
asks_local words (Make count seed) reads local = subst AsksLocal (sym reads) tt

pub no_usage : (a : Asked) (outcome : Outcome) → AsksLocal a → ((place : ℕ) → outcome ≡ Usage place → ⊥) → AnswersWords a outcome
no_usage (usage place) outcome local none = absurd local
no_usage (serve config) outcome local none = none
no_usage (script config file) outcome local none = none
no_usage (check config) outcome local none = none
no_usage (explain row) outcome local none = none
no_usage (make count seed) outcome local none = none

pub not_of_serve : (a : Asked) (P : List ℕ → Type 0) → AsksLocal a → OfServe a P
not_of_serve (usage place) P local = tt
not_of_serve (serve config) P local = absurd local
not_of_serve (script config file) P local = tt
not_of_serve (check config) P local = tt
not_of_serve (explain row) P local = tt
not_of_serve (make count seed) P local = tt

pub no_lanes : (a : Asked) (outcome : Outcome) (pass : Option PassView) (lanes : List LaneView) → AsksLocal a → pass ≡ None → lanes ≡ [] → HasLanes a outcome pass lanes
no_lanes (usage place) outcome pass lanes local none empty = (none, empty)
no_lanes (serve config) outcome pass lanes local none empty = absurd local
no_lanes (script config file) outcome pass lanes local none empty = (none, empty)
no_lanes (check config) outcome pass lanes local none empty = (none, empty)
no_lanes (explain row) outcome pass lanes local none empty = (none, empty)
no_lanes (make count seed) outcome pass lanes local none empty = (none, empty)

pub local_status : (a : Asked) (lanes : List LaneView) (status : ℕ) (outcome : Outcome) → AsksLocal a → HasStatus status outcome → IsStatus a lanes status outcome
local_status (usage place) lanes status outcome local has = has
local_status (serve config) lanes status outcome local has = absurd local
local_status (script config file) lanes status outcome local has = has
local_status (check config) lanes status outcome local has = has
local_status (explain row) lanes status outcome local has = has
local_status (make count seed) lanes status outcome local has = has

pub other_than_serve : (a : Asked) (P : Type 0) → P → OtherThanServe a P
other_than_serve (usage place) P holds = holds
other_than_serve (serve config) P holds = tt
other_than_serve (script config file) P holds = holds
other_than_serve (check config) P holds = holds
other_than_serve (explain row) P holds = holds
other_than_serve (make count seed) P holds = holds

pub no_seed_fault : (status : ℕ) (outcome : Outcome) → HasStatus status outcome → outcome ≡ SeedFault → ⊥
no_seed_fault status outcome has is = subst (λ (o : Outcome). HasStatus status o) is has
