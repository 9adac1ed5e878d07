-- Worked messages of the command table, for the counted and the equal LMK set.
use Rattle.std.specs.Prelude.{◌≡◌, ℕ, List, [], ◌∷◌, ◌++◌, Some, None, codes}
use Rattle.hsm_types.specs.declared.types.KeyType.TheVariants.{Zmk}
use Rattle.hsm_auth.specs.declared.activity.Category.TheVariants as category
use Rattle.hsm_auth.specs.declared.activity.Place.TheVariants as place
use Rattle.hsm_auth.specs.declared.entry.Ask.TheVariants as ask
use Rattle.hsm_auth.specs.declared.entry.Granted.{Granted}
use Rattle.hsm_auth.specs.declared.entry.Granted.TheVariants as granted
use Rattle.hsm_rows.specs.declared.settings.Module.{Module}
use Rattle.hsm_rows.specs.Table.{RowShape, row_A0, row_BU, row_CC, row_NG, row_JA, row_M6, row_B2, row_NO, row_RA, row_DA, row_A, row_VA, row_C, row_GC, row_FK}
use Rattle.hsm_answers.specs.Asks.{ask_of, empty_ask}
use Rattle.hsm_answers.specs.Answers.{answer}
use Rattle.hsm_answers.specs.Messages.{unknown_answer, message_answer}
use Rattle.law_worked.specs.Modules.{counted_module, equal_module}

-- the row answers the text so
abbrev pub answers : Module → RowShape → List ℕ → Granted → List ℕ → Type 0
answers m row text g reply = answer m row text g ≡ reply

-- the module with this one LMK set
abbrev pub with_set : Module → List (List (List ℕ)) → Module
with_set m set = record m { lmks = record { items = set ∷ [] } }

-- a ZMK of one part is refused with 27, whatever the LMK set
abbrev pub A0Length : Type 0
A0Length = (m : Module) (set : List (List (List ℕ))) (g : Granted) → answers (with_set m set) row_A0 (codes "0000Z") g (codes "A127")

-- two schemes of different lengths are refused with 26
abbrev pub A0Schemes : Type 0
A0Schemes = (m : Module) (set : List (List (List ℕ))) (g : Granted) → answers (with_set m set) row_A0 (codes "1001UU00000000000000000000000000000000Z") g (codes "A126")

-- a code that is in no table is refused with 04
abbrev pub A0Type : Type 0
A0Type = (m : Module) (g : Granted) → answers m row_A0 (codes "0004Z") g (codes "A104")

-- a key of two parts with flag 0 is refused with 27
abbrev pub BuLength : Type 0
BuLength = (m : Module) (set : List (List (List ℕ))) (g : Granted) → answers (with_set m set) row_BU (codes "010U00000000000000000000000000000000") g (codes "BV27")

-- flag 5 is refused with 05
abbrev pub BuFlag : Type 0
BuFlag = (m : Module) (g : Granted) → answers m row_BU (codes "015") g (codes "BV05")

-- format 02 is refused with 23
abbrev pub CcFormat : Type 0
CcFormat = (m : Module) (g : Granted) → answers m row_CC (codes "85E813540F0AB40585E813540F0AB40512D5D44FF720683D0D0201123456789012") g (codes "CD23")

-- JA draws as many words as digits
abbrev pub JaAsk : Type 0
JaAsk = (m : Module) (set : List (List (List ℕ))) → ask_of (with_set m set) row_JA (codes "12345678901204") ≡ ask.Use record { first = None; second = None } 4

-- the data and a trailer are repeated
abbrev pub B2Echo : Type 0
B2Echo = (m : Module) (set : List (List (List ℕ))) (g : Granted) → answers (with_set m set) row_B2 (codes "0003" ++ (0x41 ∷ 0x19 ∷ 0x42 ∷ 0x19 ∷ 0x41 ∷ [])) (granted.Use 0) (codes "B300" ++ (0x41 ∷ 0x19 ∷ 0x42 ∷ 0x19 ∷ 0x41 ∷ []))

-- no grants and two host ports
abbrev pub NoGrants : Type 0
NoGrants = answers equal_module row_NO (codes "00") (granted.Seen 0 0 record { items = [] }) (codes "NP000002")

-- NO looks
abbrev pub NoAsk : Type 0
NoAsk = (m : Module) (set : List (List (List ℕ))) → ask_of (with_set m set) row_NO (codes "00") ≡ ask.Look

-- an unknown command
abbrev pub Unknown : Type 0
Unknown = unknown_answer place.Host (codes "ZZ") ≡ codes "Z[68"

-- NG without the activity
abbrev pub NgRefused : Type 0
NgRefused = (m : Module) (set : List (List (List ℕ))) → answers (with_set m set) row_NG (codes "12345678901285E813540F0AB405") granted.Refused (codes "NH17")

-- a space after the last field is refused with 15
abbrev pub VaTrailing : Type 0
VaTrailing = (m : Module) (g : Granted) → answers m row_VA (codes " ") g (codes "NO 15")

-- a star cancels all
abbrev pub CAll : Type 0
CAll = (m : Module) (set : List (List (List ℕ))) → ask_of (with_set m set) row_C (codes " *") ≡ ask.CancelAll

-- two spaces make the type not stand
abbrev pub GcSpaces : Type 0
GcSpaces = (m : Module) (g : Granted) → answers m row_GC (codes "  001 Z") g (codes "NO 04")

-- no space makes the scheme not stand
abbrev pub GcTogether : Type 0
GcTogether = (m : Module) (g : Granted) → answers m row_GC (codes " 001Z") g (codes "NO 26")

-- GC without the activity
abbrev pub GcRefused : Type 0
GcRefused = (m : Module) (set : List (List (List ℕ))) → answers (with_set m set) row_GC (codes " 001 Z") granted.Refused (codes "NO 17")

-- a joined key whose parts are equal is refused with 75
abbrev pub FkRepeats : Type 0
FkRepeats = (m : Module) (set : List (List (List ℕ))) (g : Granted) → answers (with_set m set) row_FK (codes " 402 U 01010101010101010101010101010101 00000000000000000000000000000000") g (codes "NO 75")

-- BU of 85E813540F0AB405 under the equal set
abbrev pub BuKey : Type 0
BuKey = answers equal_module row_BU (codes "01085E813540F0AB405") (granted.Use 0) (codes "BV00D5D44F")

-- a block of length 0 is refused with 24
abbrev pub CcBlockLength : Type 0
CcBlockLength = answers equal_module row_CC (codes "85E813540F0AB40585E813540F0AB40512D5D44FF720683D0D0101123456789012") (granted.Use 0) (codes "CD24")

-- a block of control 4 is refused with 20
abbrev pub CcControl : Type 0
CcControl = answers equal_module row_CC (codes "85E813540F0AB40585E813540F0AB405123FA40E8A984D48150101123456789012") (granted.Use 0) (codes "CD20")

-- a text that is no PIN under the LMK is refused with 14
abbrev pub NgInvalid : Type 0
NgInvalid = answers equal_module row_NG (codes "12345678901285E813540F0AB405") (granted.Use 0) (codes "NH14")

-- the MAC of a message of 28 bytes
abbrev pub MacWhole : Type 0
MacWhole = answers equal_module row_M6 (codes "0001100885E813540F0AB405001C7654321 Now is the time for ") (granted.Use 0) (codes "M700F1D30F68")

-- padding 3 in mode 3 is refused with 80
abbrev pub MacPadding : Type 0
MacPadding = answers equal_module row_M6 (codes "3001300885E813540F0AB40500000000000000000008" ++ codes "12345678") (granted.Use 0) (codes "M780")

-- a whole message of a host, with its header
abbrev pub HostMessage : Type 0
HostMessage = message_answer equal_module place.Host (codes "0001BU01085E813540F0AB405") (granted.Use 0) ≡ codes "0001BV00D5D44F"

-- a whole message whose command is in no row
abbrev pub UnknownMessage : Type 0
UnknownMessage = (g : Granted) → message_answer equal_module place.Host (codes "0001ZZ") g ≡ codes "0001Z[68"

-- a console text whose word is in no row
abbrev pub UnknownWord : Type 0
UnknownWord = (g : Granted) → message_answer equal_module place.Console (codes "BU 01") g ≡ codes "NO 68"

-- generating a ZMK needs its activity, and two words a part
abbrev pub A0Ask : Type 0
A0Ask = ask_of counted_module row_A0 (codes "0000U") ≡ ask.Use record { first = Some record { category = category.Generate; ty = Some Zmk; place = Some place.Host; set = Some 0 }; second = None } 4

-- a message that is refused before its entry asks for nothing
abbrev pub A0NoAsk : Type 0
A0NoAsk = ask_of counted_module row_A0 (codes "0000Z") ≡ empty_ask

-- RA cancels all grants
abbrev pub RaAsk : Type 0
RaAsk = (m : Module) (set : List (List (List ℕ))) → ask_of (with_set m set) row_RA [] ≡ ask.CancelAll

-- and is answered without reply fields
abbrev pub RaDone : Type 0
RaDone = (m : Module) (set : List (List (List ℕ))) → answers (with_set m set) row_RA [] (granted.Cancelled 1) (codes "RB00")

-- an activity that no text names is refused with 15
abbrev pub AActivity : Type 0
AActivity = (m : Module) (g : Granted) → answers m row_A (codes " pin.clear.001 5 abc hello") g (codes "NO 15")

-- the table is looked at before the block
abbrev pub DaTable : Type 0
DaTable = answers equal_module row_DA (codes "85E813540F0AB40585E813540F0AB40512D5D44FF720683D0D0104123456789012012345601234560112345678901N4943FFFFFFFF") (granted.Use 0) (codes "DB25")
