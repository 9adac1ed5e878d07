-- What a message of a row whose rules fit asks is within the limits of a ledger.
use Rattle.std.proofs.Common.{◌≡◌, ℕ, ◌*◌, ◌≤◌, ◌&&◌, Bool, true, false, not, nat_le, List, [], ◌∷◌, length, take, map, Option, Some, None, Result, Ok, Err, if◌then◌else◌, codes, is_some, refl, inl, inr, arith}
use Rattle.std.specs.Prelude.{nat_eq, nat_lt}
use Rattle.std.specs.List.{list_all, starts_with}
use Rattle.std.specs.Char.{is_ascii_digit}
use Rattle.std.specs.Str.{bytes_eq}
use Rattle.std.proofs.Common.{sym, subst}
use Rattle.std.proofs.lemmas.Bool.{and_parts, cases_Bool}
use Rattle.std.proofs.lemmas.Bool.Decides.{nat_tests}
use Rattle.std.proofs.lemmas.List.{length-take, length-drop}
use Rattle.std.proofs.lemmas.Slice.Eq.{bytes_eq-Decides}
use Rattle.hsm_nibbles.specs.Nibbles.{nibbles_of, xor_nibbles}
use Rattle.hsm_nibbles.proofs.NibbleLaws.{length-nibbles_of}
use Rattle.hsm_types.specs.declared.types.Scheme.{Scheme}
use Rattle.hsm_types.specs.declared.types.Scheme.TheVariants.{Z, P, U, T, X, Y}
use Rattle.hsm_types.specs.Schemes.{scheme_parts}
use Rattle.hsm_pinblock.specs.Blocks.{account_field, mixed}
use Rattle.hsm_pinblock.specs.Faults.{blockfault, body_fails, body_in, control_fails, field_fault, length_fails, length_in, pin_of_block}
use Rattle.hsm_pinblock.specs.declared.Format.{Format}
use Rattle.hsm_pinblock.specs.declared.Format.TheVariants.{F01, F03, F05, F47}
use Rattle.hsm_pinblock.specs.declared.BlockFault.{BlockFault}
use Rattle.hsm_pinblock.specs.declared.BlockFault.TheVariants.{Control, Length, Body}
use Rattle.hsm_auth.specs.declared.activity.Activity.{Activity}
use Rattle.hsm_auth.specs.declared.entry.Ask.TheVariants as ask
use Rattle.hsm_auth.specs.declared.entry.TheConstants.{MAX_MINUTES}
use Rattle.hsm_auth.specs.Activities.{activity_of}
use Rattle.hsm_auth.specs.History.{CanAsk}
use Rattle.hsm_rows.specs.declared.settings.Module.{Module}
use Rattle.hsm_rows.specs.declared.row.Code.{Code}
use Rattle.hsm_rows.specs.declared.row.Field.{Field}
use Rattle.hsm_rows.specs.Forms.{decimal_from, is_minutes}
use Rattle.hsm_rows.specs.Reading.{ReadText, is_console, reading}
use Rattle.hsm_rows.specs.Standing.{AreTexts, AreTextsOrAbsent, IsLength}
use Rattle.hsm_rows.specs.Table.{RowShape, rules_of}
use Rattle.hsm_rows.specs.declared.rules.AskKind.{AskKind}
use Rattle.hsm_rows.specs.declared.rules.AskKind.TheVariants.{UseAsk, LookAsk, RecentAsk, CancelAllAsk, AuthoriseAsk, CancelAsk}
use Rattle.hsm_rows.specs.declared.rules.Words.{Words}
use Rattle.hsm_rows.specs.declared.rules.Words.TheVariants.{NoWords, TwoPerPart, AsLength, FillOf}
use Rattle.hsm_rows.specs.declared.rules.DataCheck.{DataCheck}
use Rattle.hsm_rows.specs.declared.rules.DataCheck.TheVariants.{TableCheck, PinCheck, LongerThan, ShorterThan, MacCheck}
use Rattle.hsm_rows.specs.declared.rules.PinSource.{PinSource}
use Rattle.hsm_rows.specs.declared.rules.PinSource.TheVariants.{NoPin, BlockPin, LmkPin, ClearPin, DrawnPin}
use Rattle.hsm_answers.specs.Read.{ReadMessage, read_by, message_in}
use Rattle.hsm_answers.specs.Keys.{field_text, first_code, scheme_at}
use Rattle.hsm_answers.specs.Pins.{block_fault_code, clear_digits, digits_at, fill_length, format_at, given_pin, lmk_block, pin_fault, pin_from, sent_block}
use Rattle.hsm_answers.specs.Values.{word_count}
use Rattle.hsm_answers.specs.Checks.{checks_fault, compared_fault, data_fault, early_fault, late_fault}
use Rattle.hsm_answers.specs.Asks.{ask_of, ask_read, asked_words, authorise, cancel, empty_ask, row_ask, words_hold}
use Rattle.hsm_commands.specs.Demands.{gives_pin, pin_at_end, word_demands}
use Rattle.hsm_commands.specs.Fit.{is_length, meets_all, rules_fit}
use Rattle.hsm_commands.specs.Plans.{AreRead, AskStands}
use Rattle.hsm_commands.proofs.FormLaws.{are_read, length_means, text_is}
use Rattle.hsm_commands.proofs.FitLaws.{each_test, fits_followed}

-- some nibbles of both lists
length_xor : (xs ys : List ℕ) → 4 ≤ length xs → 4 ≤ length ys → 4 ≤ length (xor_nibbles xs ys)
length_xor (a ∷ b ∷ c ∷ d ∷ xs) (e ∷ f ∷ g ∷ h ∷ ys) some more = omega arith
length_xor _ _ some more = absurd (omega arith)

takes_two : (n : ℕ) (xs : List ℕ) → 4 ≤ n → 2 ≤ length xs → 2 ≤ length (take n xs)
takes_two n xs least long = omega (arith, least, long, length-take n xs)

-- a field without a fault has no fault of its length
not_short : (a b c : Bool) → (if a then Some Control else if b then Some Length else if c then Some Body else None) ≡ None → b ≡ false
not_short true b c none = absurd (cc)
not_short false true c none = absurd (cc)
not_short false false c none = refl

at_least : (n : ℕ) → not (nat_le 4 n && nat_le n 12) ≡ false → 4 ≤ n
at_least n within = grind (arith, nat_tests)

long_body : (format : Format) (x : List ℕ) → 4 ≤ length x → 2 ≤ length (body_in format x)
long_body F01 x long = omega (arith, long, length-drop 2 x)
long_body F03 x long = omega (arith, long)
long_body F05 x long = omega (arith, long, length-drop 2 x)
long_body F47 x long = omega (arith, long, length-drop 2 x)

long_field : (format : Format) (block : ℕ) (account : List ℕ) → 4 ≤ length (mixed format account (nibbles_of block))
long_field F01 block account = length_xor (nibbles_of block) (account_field account) (omega (arith, length-nibbles_of block)) (omega arith)
long_field F03 block account = omega (arith, length-nibbles_of block)
long_field F05 block account = omega (arith, length-nibbles_of block)
long_field F47 block account = length_xor (nibbles_of block) (account_field account) (omega (arith, length-nibbles_of block)) (omega arith)

-- the PIN of a block without a fault has some digits
two_digits : (format : Format) (block : ℕ) (account : List ℕ) → blockfault format block account ≡ None → 2 ≤ length (pin_of_block format block account)
unfolding field_fault pin_of_block
two_digits format block account none =
    let x = mixed format account (nibbles_of block) in
    takes_two (length_in format x) (body_in format x) (at_least (length_in format x) (not_short (control_fails format x) (length_fails format x) (body_fails format x) none))
    (long_body format x (long_field format block account))

no_block_fault : (fault : Option BlockFault) → block_fault_code fault ≡ None → fault ≡ None
no_block_fault None none = refl
no_block_fault (Some fault) none = absurd (cc)

no_sealed_fault : (fault : Option BlockFault) → if◌then◌else◌ {A = Option ℕ} (is_some fault) (Some 14) None ≡ None → fault ≡ None
no_sealed_fault None none = refl
no_sealed_fault (Some fault) none = absurd (cc)

some_clear : (n : ℕ) (short : Bool) → nat_lt n 4 ≡ short → if◌then◌else◌ {A = Option ℕ} short (Some 24) None ≡ None → 2 ≤ n
some_clear n true is none = absurd (cc)
some_clear n false is none = grind (arith, nat_tests)

-- a PIN that is given without a fault has some digits
some_digits : (q : ReadMessage) (source : PinSource) → gives_pin source ≡ true → pin_fault q source ≡ None
    → 2 ≤ length (pin_from q 0 source)
unfolding pin_fault pin_from
some_digits q (BlockPin block key format account) gives none =
    let at = format_at q.read format in
    two_digits at (sent_block q block key) (digits_at q.read account) (no_block_fault (blockfault at (sent_block q block key) (digits_at q.read account)) none)
some_digits q (LmkPin text account) gives none =
    two_digits F01 (lmk_block q text) (digits_at q.read account) (no_sealed_fault (blockfault F01 (lmk_block q text) (digits_at q.read account)) none)
some_digits q (ClearPin text account) gives none = some_clear (length (clear_digits q.read text)) (nat_lt (length (clear_digits q.read text)) 4) refl none
some_digits q NoPin gives none = absurd (cc)
some_digits q (DrawnPin len account) gives none = absurd (cc)

-- the first code of no fault
first_none : (first : Option ℕ) (more : List (Option ℕ)) → first_code (first ∷ more) ≡ None → first ≡ None
first_none None more none = refl
first_none (Some code) more none = absurd (cc)

rest_none : (first : Option ℕ) (more : List (Option ℕ)) → first_code (first ∷ more) ≡ None → first_code more ≡ None
rest_none None more none = none
rest_none (Some code) more none = absurd (cc)

-- a PIN that the data checks leave has no fault where none of them finds something
pin_sound : (q : ReadMessage) (checks : List DataCheck) → pin_at_end false checks ≡ true
    → first_code (map (data_fault q) checks) ≡ None → pin_fault q q.rules.pin ≡ None
unfolding data_fault
pin_sound q [] there none = absurd (cc)
pin_sound q (PinCheck ∷ more) there none = first_none (pin_fault q q.rules.pin) (map (data_fault q) more) none
pin_sound q (TableCheck k ∷ more) there none = pin_sound q more there (rest_none (data_fault q (TableCheck k)) (map (data_fault q) more) none)
pin_sound q (LongerThan k ∷ more) there none = pin_sound q more there (rest_none (data_fault q (LongerThan k)) (map (data_fault q) more) none)
pin_sound q (ShorterThan k ∷ more) there none = pin_sound q more there (rest_none (data_fault q (ShorterThan k)) (map (data_fault q) more) none)
pin_sound q (MacCheck f ∷ more) there none = pin_sound q more there (rest_none (data_fault q (MacCheck f)) (map (data_fault q) more) none)

-- two words for each part of a key
two_parts : (scheme : Scheme) → 2 * scheme_parts scheme ≤ 12
two_parts Z = omega arith
two_parts P = omega arith
two_parts U = omega arith
two_parts T = omega arith
two_parts X = omega arith
two_parts Y = omega arith

-- the fill of a PIN of some digits
fill_most : (format : Format) (pin : List ℕ) → 2 ≤ length pin → fill_length format pin ≤ 12
fill_most F01 pin some = omega arith
fill_most F03 pin some = omega arith
fill_most F05 pin some = omega (arith, some)
fill_most F47 pin some = omega (arith, some)

-- the words of a message of which no late check fails
few_words : (q : ReadMessage) (fs : List Field) (words : Words) → AreRead fs q.read.texts
    → meets_all fs q.rules (word_demands q.rules words) ≡ true → late_fault q ≡ None → word_count q words ≤ 12
unfolding word_count late_fault checks_fault
few_words q fs NoWords texts fit passed = omega arith
few_words q fs (TwoPerPart k) texts fit passed = two_parts (scheme_at q.read k)
few_words q fs (AsLength k) texts fit passed = (text_is is_length IsLength length_means fs q.read.texts k texts (and_parts _ _ fit).0).most
few_words q fs (FillOf k) texts fit passed =
    let holds = and_parts (gives_pin q.rules.pin) (pin_at_end false q.rules.checks) (and_parts _ _ fit).0 in
    let checked = first_none (checks_fault q) (compared_fault q q.rules.compared ∷ []) passed in
    fill_most (format_at q.read k) (given_pin q) (some_digits q q.rules.pin holds.0 (pin_sound q q.rules.checks holds.1 checked))

asked_few : (q : ReadMessage) → (late_fault q ≡ None → word_count q q.rules.words ≤ 12) → asked_words q ≤ 12
unfolding asked_words
asked_few q few = go (late_fault q) refl
  where
    go : (fault : Option ℕ) → late_fault q ≡ fault → (if is_some fault then 0 else word_count q q.rules.words) ≤ 12
    go None is = few is
    go (Some code) is = omega arith

-- minutes are within their limit
minutes_most : (text : List ℕ) → is_minutes text ≡ true → decimal_from 0 text ≤ MAX_MINUTES
minutes_most text holds =
    elim (cases_Bool (bytes_eq text (codes "0"))) [
      | inl zero ↦ subst (λ (t : List ℕ). decimal_from 0 t ≤ MAX_MINUTES) (sym ((bytes_eq-Decides text (codes "0")).0 zero)) (omega arith)
      | inr other ↦
          let long = (nat_le 1 (length text) && nat_le (length text) 4) && list_all is_ascii_digit text in
          let rest = and_parts long (not (starts_with nat_eq text (codes "0")) && nat_le (decimal_from 0 text) MAX_MINUTES) (rw other at holds) in
          let most = and_parts (not (starts_with nat_eq text (codes "0"))) (nat_le (decimal_from 0 text) MAX_MINUTES) rest.1 in
          grind (arith, nat_tests)
    ]

authorised : (held : Bool) (named : Option Activity) (minutes : ℕ) → minutes ≤ MAX_MINUTES → CanAsk (if held then authorise named minutes else empty_ask)
authorised true None minutes most = omega arith
authorised true (Some activity) minutes most = most
authorised false named minutes most = omega arith

cancelled : (all : Bool) (named : Option Activity) → CanAsk (if all then ask.CancelAll else cancel named)
cancelled true named = tt
cancelled false None = omega arith
cancelled false (Some activity) = tt

row_asks : (q : ReadMessage) (kind : AskKind) → asked_words q ≤ 12 → AskStands q.read kind → CanAsk (row_ask q kind)
unfolding row_ask
row_asks q UseAsk few stands = few
row_asks q LookAsk few stands = tt
row_asks q RecentAsk few stands = tt
row_asks q CancelAllAsk few stands = tt
row_asks q AuthoriseAsk few stands =
    authorised (words_hold q) (activity_of (field_text q.read 0)) (decimal_from 0 (field_text q.read 1)) (minutes_most (field_text q.read 1) stands)
row_asks q CancelAsk few stands = cancelled (bytes_eq (field_text q.read 0) (codes "*")) (activity_of (field_text q.read 0))

-- what the texts of a row's fields are
abbrev pub TextsAre : Type 0
TextsAre = (row : RowShape) (text : List ℕ) (r : ReadText) → is_console row ≡ false → reading row text ≡ Ok r → AreTexts row.fields r.texts

abbrev pub ConsoleTextsAre : Type 0
ConsoleTextsAre = (row : RowShape) (text : List ℕ) (r : ReadText) → is_console row ≡ true → reading row text ≡ Ok r → AreTextsOrAbsent row.fields r.texts

-- what a message of a row asks whose rules fit
pub asks_within : TextsAre → ConsoleTextsAre → (m : Module) (row : RowShape) (text : List ℕ) → rules_fit row ≡ true → CanAsk (ask_of m row text)
unfolding ask_of ask_read rules_fit
asks_within host console m row text fit = go (reading row text) refl
  where
    by : (r : ReadText) → AreRead row.fields r.texts → (failed : Bool) → CanAsk (if failed then empty_ask else row_ask (read_by m row r) (rules_of row).ask)
    by r texts true = omega arith
    by r texts false =
        let q = read_by m row r in
        row_asks q q.rules.ask (asked_few q (few_words q row.fields q.rules.words texts (each_test row.fields q.rules row.terms (and_parts _ _ fit).1).words))
        ((fits_followed row fit).stands m r texts).ask

    go : (read : Result ReadText Code) → reading row text ≡ read → CanAsk (ask_read (message_in m row read))
    go (Err code) is = omega arith
    go (Ok r) is = by r (are_read row r (λ side. host row text r side is) (λ side. console row text r side is)) (is_some (early_fault (read_by m row r)))
