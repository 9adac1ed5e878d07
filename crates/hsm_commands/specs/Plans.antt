-- Plans of messages, for each row whose rules can be followed.
use Rattle.std.specs.Prelude.{◌≡◌, ◌⊎◌, ℕ, ◌+◌, ◌^◌, ◌<◌, ◌≤◌, Bool, true, false, not, ◌&&◌, List, [], ◌∷◌, length, map, filter, flat_map, Option, Some, None, is_some, IfSome, Result, Ok, Err}
use Rattle.std.specs.Option.{option_map}
use Rattle.hsm_auth.specs.declared.entry.Ask.{Ask}
use Rattle.hsm_auth.specs.declared.entry.Granted.{Granted}
use Rattle.hsm_rows.specs.declared.settings.Module.{Module}
use Rattle.hsm_rows.specs.declared.rules.AskKind.TheVariants.{UseAsk, LookAsk, RecentAsk, CancelAllAsk, AuthoriseAsk, CancelAsk}
use Rattle.hsm_rows.specs.declared.rules.AskKind.{AskKind}
use Rattle.hsm_rows.specs.declared.row.Code.{Code}
use Rattle.hsm_rows.specs.declared.row.Field.{Field}
use Rattle.hsm_rows.specs.declared.row.Form.{Form}
use Rattle.hsm_rows.specs.declared.row.Form.TheVariants.{LastComponent, SetNumber}
use Rattle.hsm_rows.specs.Forms.{is_minutes}
use Rattle.hsm_rows.specs.Table.{RowShape, Term, term, shape_of}
use Rattle.hsm_rows.specs.declared.row.Public.TheVariants.{Given}
use Rattle.hsm_rows.specs.Reading.{ReadText, read_text_of, reading, RowReads}
use Rattle.hsm_rows.specs.Standing.{IsText, EachText}
use Rattle.hsm_answers.specs.Read.{ReadMessage, read_by, message_read}
use Rattle.hsm_answers.specs.declared.plans.Checked.{Checked}
use Rattle.hsm_answers.specs.declared.plans.Checked.TheVariants.{Unread, Failed, Passed}
use Rattle.hsm_answers.specs.Keys.{field_text}
use Rattle.hsm_answers.specs.Checks.{early_fault, late_fault}
use Rattle.hsm_answers.specs.Asks.{words_hold}
use Rattle.hsm_answers.specs.Answers.{is_authorise, is_present}
use Rattle.hsm_answers.specs.Pins.{pin_of}
use Rattle.hsm_answers.specs.Values.{row_value, chain_value, first_of, spaced}
use Rattle.hsm_answers.specs.Plans.{IsPlanned, code_number, fields_text}
use Rattle.hsm_commands.specs.declared.keys.OpenedKeys.{OpenedKeys}
use Rattle.hsm_commands.specs.declared.reply_fields.HeldParts.{HeldParts}
use Rattle.hsm_commands.specs.declared.plan.Plan.{Plan}
use Rattle.hsm_commands.specs.Opened.{KeysStand, KeysHold}
use Rattle.hsm_commands.specs.Demands.{AllMet, EachMet, parts_demands, pin_demands, check_demands, value_demands, word_demands, term_demands, IsLeft, have_pin, pin_there, pin_at_end, key_drawn, terms_room}
use Rattle.hsm_commands.specs.Written.{written_text}

-- what was read for a field: a text of its form, or nothing where the form may be left out
abbrev pub IsRead : Form → List (List ℕ) → List ℕ → Type 0
IsRead (LastComponent scheme) e t = (t ≡ []) ⊎ IsText (LastComponent scheme) e t
IsRead SetNumber e t = (t ≡ []) ⊎ IsText SetNumber e t
IsRead f e t = IsText f e t

-- the same of all fields
abbrev pub AreRead : List Field → List (List ℕ) → Type 0
AreRead fields texts = EachText IsRead fields [] 0 texts

-- the minutes of an authorisation, which are in field 1
abbrev pub AskStands : ReadText → AskKind → Type 0
AskStands r UseAsk = Unit {0}
AskStands r LookAsk = Unit {0}
AskStands r RecentAsk = Unit {0}
AskStands r CancelAllAsk = Unit {0}
AskStands r AuthoriseAsk = is_minutes (field_text r 1) ≡ true
AskStands r CancelAsk = Unit {0}

-- the demands of the row's steps are met by the keys of a message
pub record StepsStand (q : ReadMessage) (keys : OpenedKeys) : Type 0 where
  pub parts : AllMet q keys (parts_demands q.rules q.rules.parts_differ)
  pub pin : AllMet q keys (pin_demands q.rules.pin)
  pub checks : EachMet q keys (map (check_demands q.rules.pin) q.rules.checks)
  pub value : AllMet q keys (value_demands q.rules q.rules.value)
  pub words : AllMet q keys (word_demands q.rules q.rules.words)

-- the rules of a row can be followed where its texts are these
pub record RowStands (q : ReadMessage) : Type 0 where
  pub keys : KeysStand q q.rules.keys
  pub steps : (keys : OpenedKeys) → KeysHold q q.rules.keys keys → StepsStand q keys
  pub have : have_pin false q.rules.checks ≡ true
  pub ask : AskStands q.read q.rules.ask

-- and so can its reply fields
abbrev pub TermsStand : ReadMessage → List Term → Type 0
TermsStand q terms = (keys : OpenedKeys) → KeysHold q q.rules.keys keys → EachMet q keys (map (term_demands q.rules) terms)

-- the reply is one given text, and no more
abbrev pub echoes : List Term → Bool
echoes (term (Given k) ∷ []) = true
echoes _ = false

-- where the row echoes, the reply before its answer and the text have at most 65,534 bytes
abbrev pub FitsEcho : RowShape → List ℕ → List ℕ → Type 0
FitsEcho row reply text = echoes row.terms ≡ true → length reply + length text ≤ 65534

-- reply fields of this size, with a space before each, are short, or the row echoes and its text has a count of 4 digits, them, and the trailer
abbrev pub FitsText : Bool → ℕ → List ℕ → List ℕ → Type 0
FitsText echo size text trailer = (size ≤ 40000) ⊎ ((echo ≡ true) × (3 + size + length trailer ≤ length text))

-- the rules of the row can be followed whatever texts it reads
pub record IsFollowed (row : RowShape) : Type 0 where
  pub few : length row.fields ≤ 12
  pub reply : length row.reply ≤ 2
  pub room : (text : List ℕ) (r : ReadText) → AreRead row.fields r.texts → RowReads row text r → FitsText (echoes row.terms) (terms_room r row.terms) text r.trailer
  pub stands : (m : Module) (r : ReadText) → AreRead row.fields r.texts → RowStands (read_by m row r)
  pub terms : (m : Module) (r : ReadText) → AreRead row.fields r.texts → TermsStand (read_by m row r) row.terms

-- the row of a plan's message
abbrev pub plan_row : Plan → RowShape
plan_row p = shape_of p.row.now

-- the text of a plan's message
abbrev pub plan_text : Plan → List ℕ
plan_text p = p.text.now

-- the ask of a plan
abbrev pub plan_ask : Plan → Ask
plan_ask p = p.found.ask

-- what was read
abbrev pub plan_read : Plan → ReadText
plan_read p = read_text_of p.fields

-- the message of a plan of the module
abbrev pub plan_message : Module → Plan → ReadMessage
plan_message m p = read_by m (plan_row p) (plan_read p)

-- what the checks of a message whose fields were read came to
abbrev pub AreChecked : ReadMessage → Checked → Type 0
AreChecked q (Unread code) = ⊥
AreChecked q (Failed code) = early_fault q ≡ Some code.0
AreChecked q (Passed late) = (early_fault q ≡ None) × (late_fault q ≡ option_map code_number late)

-- what its checks leave, where none fails
pub record IsHeld (q : ReadMessage) (held : HeldParts) : Type 0 where
  pub loaded : q.read.set < length q.«module».lmks.items
  pub keys : KeysHold q q.rules.keys held.keys
  pub left : IsLeft q held.pin
  pub value : written_text held.value ≡ row_value q q.rules.value
  pub chain : written_text held.chain ≡ chain_value q q.rules.value

-- the row authorises, and the words aren't the officers'
abbrev pub refuses_words : ReadMessage → Bool
refuses_words q = is_authorise q.rules.ask && not (words_hold q)

-- the same of a text, which may not read
abbrev pub words_refused : Result ReadMessage Code → Bool
words_refused (Err code) = false
words_refused (Ok q) = refuses_words q

-- reply fields as they are written: the console's that are there each after one space
abbrev pub written_fields : Bool → List (List ℕ) → List ℕ
written_fields true vs = spaced (filter is_present vs)
written_fields false vs = flat_map (λ field. field) vs

-- what is held for the reply fields
pub record IsReady (q : ReadMessage) (terms : List Term) (held : HeldParts) : Type 0 where
  pub loaded : q.read.set < length q.«module».lmks.items
  pub pin : AllMet q held.keys (pin_demands q.rules.pin)
  pub left : IsLeft q held.pin
  pub fields : EachMet q held.keys (map (term_demands q.rules) terms)
  pub value : written_text held.value ≡ row_value q q.rules.value
  pub chain : written_text held.chain ≡ chain_value q q.rules.value

-- what is held, and the key and the PIN at the entry
pub record IsAtEntry (q : ReadMessage) (g : Granted) (held : HeldParts) (drawn : Option (List (List ℕ))) (pin : Option (List ℕ)) : Type 0 where
  pub left : IsLeft q held.pin
  pub value : written_text held.value ≡ row_value q q.rules.value
  pub chain : written_text held.chain ≡ chain_value q q.rules.value
  pub key : drawn ≡ key_drawn q (first_of g)
  pub there : is_some pin ≡ pin_there q.rules.pin (pin_at_end false q.rules.checks)
  pub is : IfSome pin (λ p. p ≡ pin_of q (first_of g))
  pub place : first_of g < 2 ^ 63

-- the plan is the one of the text of the row in the module: what was read, checked and held
pub record IsPlan (m : Module) (row : RowShape) (text : List ℕ) (p : Plan) : Type 0 where
  pub followed : IsFollowed row
  pub planned : IsPlanned m row text p.found.ask p.found.checked p.fields.trailer.now (fields_text row (read_by m row (plan_read p)))
  pub words : p.wrong_words ≡ words_refused (message_read m row text)
  pub read : p.found.checked ≡ Passed None → reading row text ≡ Ok (plan_read p)
  pub ready : p.found.checked ≡ Passed None → IsReady (read_by m row (plan_read p)) row.terms p.found.held
  pub room : p.found.checked ≡ Passed None → FitsText (echoes row.terms) (terms_room (plan_read p) row.terms) text p.fields.trailer.now

-- the plan is one that `prepare` gives for the module
abbrev pub IsPlanOf : Module → Plan → Type 0
IsPlanOf m p = IsPlan m (plan_row p) (plan_text p) p
