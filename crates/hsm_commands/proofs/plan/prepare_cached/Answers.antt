use Rattle.std.proofs.Common.{◌≡◌, ℕ, List, None, sym, ap, ◌∙◌, subst}
use Rattle.std.specs.Prelude.{Result, Ok}
use Rattle.hsm_auth.specs.declared.entry.Granted.{Granted}
use Rattle.hsm_rows.specs.declared.row.Code.{Code}
use Rattle.hsm_rows.specs.Rules.{RowRules}
use Rattle.hsm_rows.specs.Table.{shape_of}
use Rattle.hsm_rows.specs.Reading.{ReadText, read_text_of}
use Rattle.hsm_answers.specs.Read.{ReadMessage, read_by, message_in}
use Rattle.hsm_answers.specs.declared.plans.Checked.TheVariants.{Unread, Passed}
use Rattle.hsm_answers.specs.Asks.{ask_read}
use Rattle.hsm_answers.specs.Plans.{IsPlanned, fields_text}
use Rattle.hsm_commands.specs.Plans.{AreChecked, IsHeld, RowStands, refuses_words, words_refused}
use Rattle.hsm_commands.proofs.FormLaws.{are_read}
use Rattle.hsm_commands.proofs.PlanSteps.{unread_planned, read_planned, ready_is}
use Rattle.hsm_commands.proofs.plan.prepare_cached.Goals as goal

pub check_message-requires-clause-stands : goal.check_message-requires-clause-stands
check_message-requires-clause-stands c =
    let m = c.args.module.now in
    let row = shape_of c.args.row.now in
    let text = c.args.text.now in
    let r = read_text_of c.in-Ok.fields in
    let texts = are_read row r (λ h. c.texts_stand.ensures.are row text r h c.in-Ok.ensures.reading) (λ h. c.texts_stand.ensures.console row text r h c.in-Ok.ensures.reading) in
    let P : RowRules → Type 0 = λ x. RowStands (record { «module» = m; rules = x; read = r }) in
    subst P (sym c.rules-rules.ensures) (c.requires.row.stands m r texts)

pub returns-in-Err-clause-plan : goal.returns-in-Err-clause-plan
returns-in-Err-clause-plan c =
    let m = c.args.module.now in
    let row = shape_of c.args.row.now in
    let text = c.args.text.now in
    let code = c.in-Err.code in
    let found = c.refused.result in
    let h = c.refused.ensures in
    let fields : Granted → List ℕ = fields_text row (read_by m row (read_text_of c.no_fields.result)) in
    let P : ReadText → Type 0 = λ x. IsPlanned m row text found.ask found.checked x.trailer fields in
    let none : found.checked ≡ Passed None → ⊥ = λ e. let k : Unread code ≡ Passed None = sym h.checked ∙ e in cc in
    record {
      followed = c.requires.row;
      planned = subst P (sym c.no_fields.ensures) (unread_planned m row text found.ask found.checked code fields c.in-Err.ensures.reading h.ask h.checked);
      words = sym (ap (λ (x : Result ReadText Code). words_refused (message_in m row x)) c.in-Err.ensures.reading);
      read = λ e. absurd (none e);
      ready = λ e. absurd (none e);
      room = λ e. absurd (none e);
    }

pub returns-in-Err-clause-ask : goal.returns-in-Err-clause-ask
returns-in-Err-clause-ask c = (returns-in-Err-clause-plan c).planned.asked

pub returns-in-Ok-clause-plan : goal.returns-in-Ok-clause-plan
returns-in-Ok-clause-plan c =
    let m = c.args.module.now in
    let row = shape_of c.args.row.now in
    let text = c.args.text.now in
    let r = read_text_of c.in-Ok.fields in
    let read = c.in-Ok.ensures.reading in
    let texts = are_read row r (λ h. c.texts_stand.ensures.are row text r h read) (λ h. c.texts_stand.ensures.console row text r h read) in
    let found = c.check_message.new.found in
    let h = c.check_message.ensures in
    let same = c.rules-rules.ensures in
    let by : RowRules → ReadMessage = λ x. record { «module» = m; rules = x; read = r } in
    let C : RowRules → Type 0 = λ x. AreChecked (by x) found.checked in
    let H : RowRules → Type 0 = λ x. found.checked ≡ Passed None → IsHeld (by x) found.held in
    let asked = h.ask ∙ ap (λ (x : RowRules). ask_read (Ok (by x))) same in
    record {
      followed = c.requires.row;
      planned = read_planned m row text found.ask found.checked r read asked h.may (subst C same h.checks) c.in-Ok.ensures.short;
      words =
          c.refuses_words-wrong_words.ensures
          ∙ (ap (λ (x : RowRules). refuses_words (by x)) same ∙ sym (ap (λ (x : Result ReadText Code). words_refused (message_in m row x)) read));
      read = λ e. read;
      ready = λ e. ready_is m row c.requires.row r texts found.held (subst H same h.held e);
      room = λ e. c.requires.row.room text r texts c.in-Ok.ensures.reads;
    }

pub returns-in-Ok-clause-ask : goal.returns-in-Ok-clause-ask
returns-in-Ok-clause-ask c = (returns-in-Ok-clause-plan c).planned.asked
