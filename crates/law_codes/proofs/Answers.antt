-- The answer to a host's message bears a code of its row.
use Rattle.std.proofs.Common.{◌≡◌, ℕ, Bool, true, false, List, [], ◌∷◌, ◌++◌, map, flat_map, Option, Some, None, Ok, Err, Result, refl, sym, ap, subst, ◌∙◌}
use Rattle.std.specs.Prelude.{codes, is_some, nat_le, if◌then◌else◌, drop, slice_range}
use Rattle.std.specs.Str.{bytes_eq}
use Rattle.hsm_auth.specs.Activities.{activity_of}
use Rattle.hsm_rows.specs.Forms.{decimal_from}
use Rattle.hsm_answers.specs.Read.{ReadMessage, read_by, message_in, message_read}
use Rattle.hsm_answers.specs.Keys.{field_text}
use Rattle.std.proofs.Common.{append-nil}
use Rattle.hsm_auth.specs.declared.activity.Activity.{Activity}
use Rattle.hsm_auth.specs.declared.entry.Ask.TheVariants as ask
use Rattle.hsm_auth.specs.declared.entry.Entry.{Entry}
use Rattle.hsm_auth.specs.declared.entry.Granted.{Granted}
use Rattle.hsm_auth.specs.declared.entry.Granted.TheVariants as granted
use Rattle.hsm_auth.specs.History.{Fits, live, other_count, outcome}
use Rattle.hsm_rows.specs.declared.row.Code.{Code}
use Rattle.hsm_rows.specs.declared.row.Field.{Field}
use Rattle.hsm_rows.specs.declared.settings.Module.{Module}
use Rattle.hsm_rows.specs.Table.{RowShape, rules_of}
use Rattle.hsm_rows.specs.Texts.{two_digits}
use Rattle.hsm_rows.specs.Reading.{FieldTexts, ReadText, is_console, read_on, reading, whole_reading, is_ending, spot_of}
use Rattle.hsm_rows.specs.declared.rules.AskKind.{AskKind}
use Rattle.hsm_rows.specs.declared.rules.AskKind.TheVariants.{UseAsk, LookAsk, RecentAsk, CancelAllAsk, AuthoriseAsk, CancelAsk}
use Rattle.hsm_answers.specs.Answers.{answer, host_answer, host_body}
use Rattle.hsm_answers.specs.Asks.{as_needs, ask_of, ask_read, asked_words, words_hold, authorise, cancel, empty_ask, row_ask}
use Rattle.hsm_answers.specs.Checks.{early_fault, check_read, is_refused, needs_of}
use Rattle.hsm_answers.specs.Values.{values}
use Rattle.hsm_auth.specs.declared.activity.Place.TheVariants.{Host}
use Rattle.hsm_answers.specs.Messages.{answer_by, ask_by, header_of, command_of, enabled_row, message_answer, message_ask, text_after}
use Rattle.hsm_rows.specs.Codes.{check_codes, codes_of, is_among, named_codes}
use Rattle.law_codes.specs.Codes.{BearsCode}
use Rattle.law_codes.proofs.Among.{behind, each, left, opt_among, third}
use Rattle.law_codes.proofs.Checks.{MayRefuse, read_has}
use Rattle.law_codes.proofs.Rows.{enabled_coded}

-- the codes of fields
abbrev field_codes : List Field → List ℕ
field_codes fields = map (λ (f : Field). f.code.0) fields

same_code : (a b : Code) → ◌≡◌ {A = Result FieldTexts Code} (Err a) (Err b) → a ≡ b
same_code a b h = cc h

-- a field of which no text stands, or what the fields behind it refuse
at_field : {S : Type 0} (own code : Code) (later : List ℕ) (spot : Option S) (onward : S → Result FieldTexts Code)
    → (elim spot as (λ s. Result FieldTexts Code) [ None ↦ Err own | Some s ↦ onward s ]) ≡ Err code
    → ((s : S) → onward s ≡ Err code → is_among code.0 (0 ∷ 15 ∷ own.0 ∷ later) ≡ true)
    → is_among code.0 (0 ∷ 15 ∷ own.0 ∷ later) ≡ true
at_field own code later None onward h behind_it = subst (λ (c : Code). is_among c.0 (0 ∷ 15 ∷ own.0 ∷ later) ≡ true) (same_code own code h) (third own.0 later)
at_field own code later (Some s) onward h behind_it = behind_it s h

-- a message that does not read is refused with 15 or with the code of a field
refused_has : (console : Bool) (fields : List Field) (earlier : List (List ℕ)) (rest : List ℕ) (code : Code)
    → read_on console fields earlier rest ≡ Err code → is_among code.0 (0 ∷ 15 ∷ field_codes fields) ≡ true
unfolding read_on
refused_has console [] earlier rest code refused = at_end (is_ending console rest) refused where
  at_end : (b : Bool) → if◌then◌else◌ {A = Result FieldTexts Code} b (Ok (record { texts = earlier; ending = rest })) (Err (record { 0 = 15 })) ≡ Err code → is_among code.0 (0 ∷ 15 ∷ []) ≡ true
  at_end true h = absurd (cc h)
  at_end false h = subst (λ (c : Code). is_among c.0 (0 ∷ 15 ∷ []) ≡ true) (same_code (record { 0 = 15 }) code h) refl
refused_has console (f ∷ fields) earlier rest code refused =
    at_field f.code code (field_codes fields) (spot_of console f.form earlier rest) (λ s. read_on console fields (earlier ++ slice_range rest s.from s.to ∷ []) (drop s.to rest)) refused
    (λ s onward. behind (Some code.0) 0 15 (f.code.0 ∷ []) (field_codes fields) (refused_has console fields (earlier ++ slice_range rest s.from s.to ∷ []) (drop s.to rest) code onward))

-- a text that does not read is refused by its fields, or by what follows them
unread : (row : RowShape) (read : Result FieldTexts Code) (code : Code) → whole_reading row read ≡ Err code → read ≡ Err code
unread row (Err own) code h = let same : own ≡ code = cc h in ap Err same
unread row (Ok read) code h = absurd (cc h)

full_or_not : (t : Bool) → is_refused (if t then granted.Full else granted.Authorised) ≡ false
full_or_not true = refl
full_or_not false = refl

authorise_open : (h : List Entry) (moment : ℕ) (b : Bool) (a : Option Activity) (minutes : ℕ) → is_refused (outcome h moment (if b then authorise a minutes else empty_ask)) ≡ false
authorise_open h moment true None minutes = refl
authorise_open h moment true (Some a) minutes = full_or_not (nat_le 32 (other_count a (live h moment)))
authorise_open h moment false a minutes = refl

cancel_open : (h : List Entry) (moment : ℕ) (b : Bool) (a : Option Activity) → is_refused (outcome h moment (if b then ask.CancelAll else cancel a)) ≡ false
cancel_open h moment true a = refl
cancel_open h moment false None = refl
cancel_open h moment false (Some a) = refl

use_open : (h : List Entry) (moment : ℕ) (needs : List Activity) (words : ℕ) → needs ≡ [] → is_refused (outcome h moment (ask.Use (as_needs needs) words)) ≡ false
use_open h moment needs words none = rw none refl

no_needs_of : (q : ReadMessage) → q.rules.acts ≡ [] → q.rules.needs ≡ [] → needs_of q ≡ []
unfolding needs_of
no_needs_of q acts needs = rw (acts, needs) refl

kind_open : (q : ReadMessage) (kind : AskKind) (h : List Entry) (moment : ℕ) → q.rules.acts ≡ [] → q.rules.needs ≡ []
    → is_refused (outcome h moment (row_ask q kind)) ≡ false
unfolding row_ask
kind_open q UseAsk h moment acts needs = use_open h moment (needs_of q) (asked_words q) (no_needs_of q acts needs)
kind_open q LookAsk h moment acts needs = refl
kind_open q RecentAsk h moment acts needs = refl
kind_open q CancelAllAsk h moment acts needs = refl
kind_open q AuthoriseAsk h moment acts needs = authorise_open h moment (words_hold q) (activity_of (field_text q.read 0)) (decimal_from 0 (field_text q.read 1))
kind_open q CancelAsk h moment acts needs = cancel_open h moment (bytes_eq (field_text q.read 0) (codes "*")) (activity_of (field_text q.read 0))

-- where no early check fails, a row that needs nothing is not refused at an entry that fits
may_refuse : (q : ReadMessage) (g : Granted) (before : Option ℕ) → before ≡ None
    → Fits (if is_some before then empty_ask else row_ask q q.rules.ask) g → MayRefuse q.rules g
may_refuse q g None none fits = λ acts needs. subst (λ (x : Granted). is_refused x ≡ false) (sym fits.2) (kind_open q q.rules.ask fits.0 fits.1 acts needs)
may_refuse q g (Some code) none fits = absurd (cc none)

-- the answer to a text of the row bears one of the codes that the row names
record BearsNamed (row : RowShape) (g : Granted) (read : Result ReadMessage Code) : Type 0 where
  code : ℕ
  named : is_among code (named_codes row) ≡ true
  rest : List ℕ
  is : host_answer row g read ≡ row.reply ++ (two_digits code ++ rest)

checked_bears : (row : RowShape) (g : Granted) (q : ReadMessage) (fault : Option ℕ) → opt_among fault (0 ∷ 15 ∷ check_codes (rules_of row)) ≡ true
    → (code : ℕ) × (is_among code (named_codes row) ≡ true) × (rest : List ℕ) × (host_body row q g fault ≡ two_digits code ++ rest)
checked_bears row g q None among = (0, refl, flat_map (λ field. field) (values q g row.terms) ++ q.read.trailer, refl)
checked_bears row g q (Some code) among = (code, behind (Some code) 0 15 (field_codes row.fields) (check_codes (rules_of row)) among, q.read.trailer, refl)

read_bears : (m : Module) (row : RowShape) (g : Granted) (text : List ℕ) (read : Result ReadText Code) → is_console row ≡ false → reading row text ≡ read
    → Fits (ask_read (message_in m row read)) g → BearsNamed row g (message_in m row read)
unfolding ask_read
read_bears m row g text (Err code) side reads fits = record {
  code = code.0;
  named = left (Some code.0) (0 ∷ 15 ∷ field_codes row.fields) (check_codes (rules_of row)) (refused_has (is_console row) row.fields [] text code (unread row (read_on (is_console row) row.fields [] text) code reads));
  rest = [];
  is = ap (λ (digits : List ℕ). row.reply ++ digits) (sym (append-nil (two_digits code.0)));
}
read_bears m row g text (Ok r) side reads fits =
    let q = read_by m row r in
    let may : early_fault q ≡ None → MayRefuse q.rules g = λ none. may_refuse q g (early_fault q) none fits in
    let bears = checked_bears row g q (check_read q g) (read_has q g may) in
    record { code = bears.0; named = bears.1; rest = bears.2; is = ap (λ (body : List ℕ). row.reply ++ body) bears.3 }

answer_is : (m : Module) (row : RowShape) (text : List ℕ) (g : Granted) → is_console row ≡ false → answer m row text g ≡ host_answer row g (message_read m row text)
unfolding answer
answer_is m row text g side = rw side refl

pub bears : (m : Module) (message : List ℕ) (g : Granted) (row : RowShape) → enabled_row m Host (command_of m Host message) ≡ Some row
    → Fits (message_ask m Host message) g → BearsCode m row message g
unfolding message_answer message_ask ask_of
bears m message g row found fits =
    let row_coded = enabled_coded m (command_of m Host message) row found in
    let text = text_after m Host message in
    let fits_row : Fits (ask_read (message_read m row text)) g = subst (λ (o : Option RowShape). Fits (ask_by m Host message o) g) found fits in
    let read = read_bears m row g text (reading row text) row_coded.host refl fits_row in
    record {
      code = read.code;
      among = each (λ code. is_among code (codes_of row)) read.code (named_codes row) row_coded.named read.named;
      rest = read.rest;
      is = ap (λ (o : Option RowShape). header_of m Host message ++ answer_by m Host message g o) found ∙ ap (λ (body : List ℕ). header_of m Host message ++ body) (answer_is m row text g row_coded.host ∙ read.is);
    }
