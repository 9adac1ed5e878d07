use Rattle.std.proofs.Common.{rules, ◌≡◌, sym, subst, List, [], ◌∷◌, Option, Some}
use Rattle.atomic_table.specs.Table.{opening}
use Rattle.hsm_auth.specs.declared.ledger.Ledger.{Ledger}
use Rattle.hsm_auth.specs.History.{StandsFor}
use Rattle.hsm_desk.specs.declared.view.InSlot.{InSlot}
use Rattle.hsm_desk.specs.Rule.{Ruled, first_view}
use Rattle.hsm_desk.proofs.Turns.{starts}
use Rattle.hsm_desk.proofs.desk.Desk.new.Goals as goal

pub new-requires-2 : goal.new-requires-2
new-requires-2 c =
    let x : InSlot = record { ledger = c.in_ok-ledger.ledger; moment = 0; ask = c.of.result; granted = c.of-2.result } in
    let same : c.in_ok-ledger.ledger.value ≡ c.args.ledger = search rules in
    let is : c.push.new.self.items ≡ Some x ∷ [] = search rules in
    subst (λ (xs : List (Option InSlot)). Ruled (opening (0 ∷ 0 ∷ []) xs first_view)) (sym is) (starts x (subst (λ (l : Ledger). StandsFor l []) (sym same) c.requires))
