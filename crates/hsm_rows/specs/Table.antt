-- The rows of the command table: what each command's message and reply are made of. A row that speaks of its fields names them first, by their places.
use Rattle.std.specs.Prelude.{ℕ, Bool, List, [], ◌∷◌, ◌++◌, map, Option, codes, find}
use Rattle.std.specs.List.{Contains}
use Rattle.std.specs.Str.{bytes_eq}
use Rattle.std.specs.Borrow.{Bor}
use Rattle.hsm_rows.specs.Rules.{RowRules, rules_in}
use Rattle.hsm_rows.specs.declared.rules.RuleSet.{RuleSet}
use Rattle.hsm_rows.specs.declared.rules.RuleSet.TheVariants as set
use Rattle.hsm_rows.specs.declared.row.Row.{Row}
use Rattle.hsm_rows.specs.declared.row.Field.{Field}
use Rattle.hsm_rows.specs.declared.row.Form.{Form}
use Rattle.hsm_rows.specs.declared.row.Public.{Public}
use Rattle.hsm_rows.specs.declared.row.Form.TheVariants as form
use Rattle.hsm_rows.specs.declared.row.Secret.TheVariants as secret
use Rattle.hsm_rows.specs.declared.row.Public.TheVariants as public
use Rattle.hsm_rows.specs.declared.row.Public.TheVariants.{Fixed}

-- a reply field: a fixed text by its bytes, any other as it is
pub data Term : Type 0 where
  plain_text : List ℕ → Term
  term : Public → Term

-- a reply field of the table
abbrev pub term_of : Public → Term
term_of (Fixed text) = plain_text text.now
term_of t = term t

-- a row with its texts and lists as lists; a console row has no reply code
pub record RowShape : Type 0 where
  pub code : List ℕ
  pub reply : List ℕ
  pub fields : List Field
  pub terms : List Term
  -- what it asks beyond its forms
  pub rules : RuleSet

-- a row of the table
abbrev pub shape_of : Row → RowShape
shape_of r = record { code = r.code.now; reply = r.reply.now; fields = r.fields.now; terms = map term_of r.terms.now; rules = r.rules }

-- the row that is pointed to
abbrev pub shown_shape : Bor Row → RowShape
shown_shape r = shape_of r.now

-- a field of the form, with its code
abbrev pub field : Form → ℕ → Field
field f c = record { form = f; code = record { 0 = c } }

-- a row of these columns
abbrev pub make_row : List ℕ → List ℕ → RuleSet → List Field → List Term → RowShape
make_row c r rules f t = record { code = c; reply = r; fields = f; terms = t; rules = rules }

-- what a row asks beyond its forms
abbrev pub rules_of : RowShape → RowRules
rules_of row = rules_in row.rules

-- A0: draw a key
abbrev pub row_A0 : RowShape
row_A0 =
    let kek : ℕ = 4 in
    make_row (codes "A0") (codes "A1") set.A0
    (field form.ZeroToOne 15 ∷ field form.KeyType 4 ∷ field form.Scheme 26 ∷ field form.Mode1Wrapper 15 ∷ field form.Mode1Key 15 ∷ field form.Mode1WrapScheme 26 ∷ [])
    (term (public.Sealed secret.DrawnKey) ∷ term (public.SealedUnder secret.DrawnKey kek) ∷ term (public.CheckValue secret.DrawnKey) ∷ [])

-- A6: import a key
abbrev pub row_A6 : RowShape
row_A6 =
    let zmk : ℕ = 1 in
    let wrapped : ℕ = 2 in
    make_row (codes "A6") (codes "A7") set.A6
    (field form.KeyType 4 ∷ field form.Key 15 ∷ field form.WrappedKey 15 ∷ field form.Scheme 26 ∷ [])
    (term (public.Sealed (secret.OpenedUnder wrapped zmk)) ∷ term (public.CheckValue (secret.OpenedUnder wrapped zmk)) ∷ [])

-- A8: export a key
abbrev pub row_A8 : RowShape
row_A8 =
    let kek : ℕ = 2 in
    let exported : ℕ = 3 in
    make_row (codes "A8") (codes "A9") set.A8
    (field form.KeyType 4 ∷ field form.Wrapper 15 ∷ field form.Key 15 ∷ field form.Key 15 ∷ field form.WrapScheme 26 ∷ [])
    (term (public.SealedUnder (secret.Opened exported) kek) ∷ term (public.CheckValue (secret.Opened exported)) ∷ [])

-- BU: the check value of a key
abbrev pub row_BU : RowShape
row_BU =
    let pair_code : ℕ = 0 in
    let flag : ℕ = 1 in
    let checked : ℕ = 2 in
    make_row (codes "BU") (codes "BV") set.Bu
    (field form.Type2 4 ∷ field form.Flag 5 ∷ field (form.KeyByFlag flag) 15 ∷ field (form.FfSemicolon pair_code) 15 ∷ field (form.FfType pair_code) 4 ∷ [])
    (term (public.CheckValue (secret.Opened checked)) ∷ [])

-- CA: translate a PIN block from a TPK to a ZPK
abbrev pub row_CA : RowShape
row_CA =
    let zpk : ℕ = 1 in
    let second_format : ℕ = 5 in
    make_row (codes "CA") (codes "CB") set.Ca
    (field form.Key 15 ∷ field form.Key 15 ∷ field form.Length 15 ∷ field form.Hex16 15 ∷ field form.Format 23 ∷ field form.Format 23 ∷ field form.Digits12 15 ∷ [])
    (term public.PinLength ∷ term (public.BlockUnder second_format zpk) ∷ term (public.Given second_format) ∷ [])

-- CC: translate a PIN block from a ZPK to a ZPK
abbrev pub row_CC : RowShape
row_CC =
    let zpk : ℕ = 1 in
    let second_format : ℕ = 5 in
    make_row (codes "CC") (codes "CD") set.Cc
    (field form.Key 15 ∷ field form.Key 15 ∷ field form.Length 15 ∷ field form.Hex16 15 ∷ field form.Format 23 ∷ field form.Format 23 ∷ field form.Digits12 15 ∷ [])
    (term public.PinLength ∷ term (public.BlockUnder second_format zpk) ∷ term (public.Given second_format) ∷ [])

-- DE: make an offset
abbrev pub row_DE : RowShape
row_DE =
    make_row (codes "DE") (codes "DF") set.De
    (field form.Key 15 ∷ field form.Hex16 15 ∷ field form.Length 15 ∷ field form.Digits12 15 ∷ field form.Digits16 15 ∷ field form.Validation 15 ∷ [])
    (term public.Value ∷ [])

-- DG: make a PVV
abbrev pub row_DG : RowShape
row_DG =
    make_row (codes "DG") (codes "DH") set.Dg
    (field form.Pair 15 ∷ field form.Hex16 15 ∷ field form.Digits12 15 ∷ field form.Digits1 15 ∷ [])
    (term public.Value ∷ [])

-- DA: verify a terminal's PIN by an offset
abbrev pub row_DA : RowShape
row_DA =
    let check_length : ℕ = 5 in
    make_row (codes "DA") (codes "DB") set.Da
    (field form.Key 15 ∷ field form.Key 15 ∷ field form.Length 15 ∷ field form.Hex16 15 ∷ field form.Format 23 ∷ field form.Length 15 ∷ field form.Digits12 15 ∷ field form.Digits16 15 ∷ field form.Validation 15 ∷ field (form.Offset check_length) 15 ∷ [])
    []

-- EA: verify another zone's PIN by an offset
abbrev pub row_EA : RowShape
row_EA =
    let check_length : ℕ = 5 in
    make_row (codes "EA") (codes "EB") set.Ea
    (field form.Key 15 ∷ field form.Key 15 ∷ field form.Length 15 ∷ field form.Hex16 15 ∷ field form.Format 23 ∷ field form.Length 15 ∷ field form.Digits12 15 ∷ field form.Digits16 15 ∷ field form.Validation 15 ∷ field (form.Offset check_length) 15 ∷ [])
    []

-- DC: verify a terminal's PIN by a PVV
abbrev pub row_DC : RowShape
row_DC =
    make_row (codes "DC") (codes "DD") set.Dc
    (field form.Key 15 ∷ field form.Pair 15 ∷ field form.Hex16 15 ∷ field form.Format 23 ∷ field form.Digits12 15 ∷ field form.Digits1 15 ∷ field form.Digits4 15 ∷ [])
    []

-- EC: verify another zone's PIN by a PVV
abbrev pub row_EC : RowShape
row_EC =
    make_row (codes "EC") (codes "ED") set.Ec
    (field form.Key 15 ∷ field form.Pair 15 ∷ field form.Hex16 15 ∷ field form.Format 23 ∷ field form.Digits12 15 ∷ field form.Digits1 15 ∷ field form.Digits4 15 ∷ [])
    []

-- BA: seal a clear PIN
abbrev pub row_BA : RowShape
row_BA =
    make_row (codes "BA") (codes "BB") set.Ba
    (field form.ClearPin 15 ∷ field form.Digits12 15 ∷ [])
    (term public.SealedPin ∷ [])

-- NG: show a PIN
abbrev pub row_NG : RowShape
row_NG =
    make_row (codes "NG") (codes "NH") set.Ng
    (field form.Digits12 15 ∷ field form.Hex16 15 ∷ [])
    (term public.ShowPin ∷ [])

-- JA: draw a PIN
abbrev pub row_JA : RowShape
row_JA =
    make_row (codes "JA") (codes "JB") set.Ja
    (field form.Digits12 15 ∷ field form.Length 15 ∷ [])
    (term public.SealedPin ∷ [])

-- CW: make a CVV
abbrev pub row_CW : RowShape
row_CW =
    make_row (codes "CW") (codes "CX") set.Cw
    (field form.Pair 15 ∷ field form.Account 15 ∷ field form.Digits4 15 ∷ field form.Digits3 15 ∷ [])
    (term public.Value ∷ [])

-- CY: verify a CVV
abbrev pub row_CY : RowShape
row_CY =
    make_row (codes "CY") (codes "CZ") set.Cy
    (field form.Pair 15 ∷ field form.Digits3 15 ∷ field form.Account 15 ∷ field form.Digits4 15 ∷ field form.Digits3 15 ∷ [])
    []

-- M6: make a MAC
abbrev pub row_M6 : RowShape
row_M6 =
    let input : ℕ = 1 in
    make_row (codes "M6") (codes "M7") set.M6
    (field form.ZeroToThree 15 ∷ field form.ZeroToTwo 15 ∷ field form.ZeroToOne 15 ∷ field form.OneOrThree 15 ∷ field form.ZeroToThree 15 ∷ field form.MacType 4 ∷ field form.Key 15 ∷ field form.Mode23Chain 15 ∷ field form.Count 15 ∷ field (form.DataByInput input) 15 ∷ [])
    (term public.Value ∷ term public.Chain ∷ [])

-- M8: verify a MAC
abbrev pub row_M8 : RowShape
row_M8 =
    let input : ℕ = 1 in
    let mac_size : ℕ = 2 in
    make_row (codes "M8") (codes "M9") set.M8
    (field form.ZeroToThree 15 ∷ field form.ZeroToTwo 15 ∷ field form.ZeroToOne 15 ∷ field form.OneOrThree 15 ∷ field form.ZeroToThree 15 ∷ field form.MacType 4 ∷ field form.Key 15 ∷ field form.Mode23Chain 15 ∷ field form.Count 15 ∷ field (form.DataByInput input) 15 ∷ field (form.Mode03Mac mac_size) 15 ∷ [])
    (term public.Chain ∷ [])

-- B2: echo data
abbrev pub row_B2 : RowShape
row_B2 =
    let echoed : ℕ = 1 in
    make_row (codes "B2") (codes "B3") set.Plain
    (field form.Count 15 ∷ field form.Data 15 ∷ [])
    (term (public.Given echoed) ∷ [])

-- NC: the LMK check
abbrev pub row_NC : RowShape
row_NC =
    make_row (codes "NC") (codes "ND") set.Plain
    []
    (term public.LmkCheck ∷ plain_text (codes "0001-LAB1") ∷ [])

-- NO: the state of the module
abbrev pub row_NO : RowShape
row_NO =
    make_row (codes "NO") (codes "NP") set.Looks
    (field form.TwoZeros 15 ∷ [])
    (term public.LiveGrants ∷ term public.Hosts ∷ [])

-- RA: cancel all grants
abbrev pub row_RA : RowShape
row_RA =
    make_row (codes "RA") (codes "RB") set.Ra
    []
    []

-- A: authorise an activity
abbrev pub row_A : RowShape
row_A =
    make_row (codes "A") [] set.A
    (field form.Act 15 ∷ field form.Minutes 15 ∷ field form.Word 15 ∷ field form.Word 15 ∷ [])
    (term public.Done ∷ [])

-- C: cancel a grant, or all
abbrev pub row_C : RowShape
row_C =
    make_row (codes "C") [] set.C
    (field form.ActOrAll 15 ∷ [])
    (term public.Cancelled ∷ [])

-- VA: list the live grants
abbrev pub row_VA : RowShape
row_VA =
    make_row (codes "VA") [] set.Looks
    []
    (term public.Grants ∷ [])

-- Q: the numbers of the ledger
abbrev pub row_Q : RowShape
row_Q =
    make_row (codes "Q") [] set.Looks
    []
    (term public.Numbers ∷ [])

-- LOG: list the last notes
abbrev pub row_LOG : RowShape
row_LOG =
    make_row (codes "LOG") [] set.Log
    []
    (term public.Notes ∷ [])

-- GC: draw a component
abbrev pub row_GC : RowShape
row_GC =
    make_row (codes "GC") [] set.Gc
    (field form.KeyType 4 ∷ field form.Scheme 26 ∷ field form.SetNumber 15 ∷ [])
    (term (public.ShowKey secret.DrawnKey) ∷ term (public.Sealed secret.DrawnKey) ∷ term (public.CheckValue secret.DrawnKey) ∷ [])

-- FK: form a key from components
abbrev pub row_FK : RowShape
row_FK =
    let scheme : ℕ = 1 in
    make_row (codes "FK") [] set.Fk
    (field form.KeyType 4 ∷ field form.Scheme 26 ∷ field (form.Component scheme) 15 ∷ field (form.Component scheme) 15 ∷ field (form.LastComponent scheme) 15 ∷ field form.SetNumber 15 ∷ [])
    (term (public.Sealed secret.Joined) ∷ term (public.CheckValue secret.Joined) ∷ [])

-- the host rows
unfoldable pub host_rows : List RowShape
host_rows = row_A0 ∷ row_A6 ∷ row_A8 ∷ row_BU ∷ row_CA ∷ row_CC ∷ row_DE ∷ row_DG ∷ row_DA ∷ row_EA ∷ row_DC ∷ row_EC ∷ row_BA ∷ row_NG ∷ row_JA ∷ row_CW ∷ row_CY ∷ row_M6 ∷ row_M8 ∷ row_B2 ∷ row_NC ∷ row_NO ∷ row_RA ∷ []

-- the console rows
unfoldable pub console_rows : List RowShape
console_rows = row_A ∷ row_C ∷ row_VA ∷ row_Q ∷ row_LOG ∷ row_GC ∷ row_FK ∷ []

-- all rows
unfoldable pub all_rows : List RowShape
all_rows = host_rows ++ console_rows

-- whether the row has the code
abbrev pub same_code : List ℕ → RowShape → Bool
same_code c r = bytes_eq c r.code

-- the row of a code among these rows
abbrev pub row_with : List ℕ → List RowShape → Option RowShape
row_with c = find (same_code c)

-- the row is one of the host rows
abbrev pub IsHostRow : RowShape → Type 0
IsHostRow row = Contains host_rows row

-- the row is one of the console rows
abbrev pub IsConsoleRow : RowShape → Type 0
IsConsoleRow row = Contains console_rows row
