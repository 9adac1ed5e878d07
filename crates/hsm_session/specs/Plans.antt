-- What a message comes to before its entry.
use Rattle.std.specs.Prelude.{◌≡◌, ℕ, ◌≤◌, List, length, Option, Some, None, IfSome}
use Rattle.std.specs.Option.{option_map}
use Rattle.hsm_auth.specs.declared.activity.Place.{Place}
use Rattle.hsm_auth.specs.declared.entry.Ask.{Ask}
use Rattle.hsm_rows.specs.declared.settings.Module.{Module}
use Rattle.hsm_answers.specs.Asks.{empty_ask}
use Rattle.hsm_answers.specs.Messages.{command_of, enabled_row, least_for, text_after}
use Rattle.hsm_commands.specs.declared.plan.Plan.{Plan as CommandPlan}
use Rattle.hsm_commands.specs.Plans as command
use Rattle.hsm_session.specs.declared.plans.Plan.{Plan}

-- the message of a plan
abbrev pub plan_message : Plan → List ℕ
plan_message plan = plan.message.now

-- where the message of a plan comes from
abbrev pub plan_kind : Plan → Place
plan_kind plan = plan.kind

-- the ask of a command: nothing for one that is in no row
abbrev pub command_ask : Option CommandPlan → Ask
command_ask None = empty_ask
command_ask (Some plan) = command.plan_ask plan

-- the ask of a plan
abbrev pub plan_ask : Plan → Ask
plan_ask plan = command_ask plan.command

-- the command of a message: the plan of its row, if its code is in one, and of what follows the code
pub record IsCommandOf (m : Module) (side : Place) (message : List ℕ) (found : Option CommandPlan) : Type 0 where
  pub row : option_map command.plan_row found ≡ enabled_row m side (command_of m side message)
  pub text : IfSome found (λ plan. command.plan_text plan ≡ text_after m side message)
  pub own : IfSome found (λ plan. command.IsPlanOf m plan)

-- the plan is the one of its message in the module
pub record IsPlanOf (m : Module) (plan : Plan) : Type 0 where
  pub least : least_for m (plan_kind plan) ≤ length (plan_message plan)
  pub most : length (plan_message plan) ≤ 65535
  pub command : IsCommandOf m (plan_kind plan) (plan_message plan) plan.command
