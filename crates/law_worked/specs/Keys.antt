-- Worked messages with keys, PINs and draws, under the three LMK sets.
use Rattle.std.specs.Prelude.{ℕ, List, [], ◌++◌, map, drop, codes}
use Rattle.hsm_types.specs.declared.types.KeyType.TheVariants.{Zmk, Zpk, Tpk, Cvk, Bdk}
use Rattle.hsm_types.specs.declared.types.Scheme.TheVariants as scheme
use Rattle.hsm_tdes.specs.Tdes.{check_value, key_bytes}
use Rattle.hsm_nibbles.specs.Characters.{digit_value, hex_of_bytes}
use Rattle.hsm_pinblock.specs.Blocks.{sealed_pin}
use Rattle.hsm_auth.specs.declared.entry.Granted.TheVariants as granted
use Rattle.hsm_rows.specs.Table.{row_A0, row_A6, row_A8, row_BU, row_CA, row_DE, row_DG, row_DC, row_EA, row_BA, row_NG, row_JA, row_CW, row_CY, row_M6, row_M8, row_NC, row_GC, row_FK}
use Rattle.hsm_answers.specs.Keys.{key_text}
use Rattle.hsm_answers.specs.Draws.{drawn_key, drawn_digits}
use Rattle.hsm_answers.specs.Pins.{block_text}
use Rattle.hsm_answers.specs.Answers.{answer}
use Rattle.law_worked.specs.Modules.{counted_module, counted_set, equal_module, other_pvk_module, two_parts, short_key, long_key, first_drawn, second_drawn, sealed_key, account, sealed_digits, enciphered_digits}
use Rattle.law_worked.specs.Messages.{answers}

-- an imported key whose parts are equal is refused with 75
abbrev pub A6Repeats : Type 0
A6Repeats = answers counted_module row_A6 (codes "001" ++ (sealed_key Zmk scheme.U long_key ++ (key_text long_key scheme.X (two_parts (codes "0123456789ABCDEF0123456789ABCDEF")) ++ codes "U"))) (granted.Use 0) (codes "A775")

-- the key is sealed under the LMK
abbrev pub A6Imports : Type 0
A6Imports = answers counted_module row_A6 (codes "001" ++ (sealed_key Zmk scheme.U long_key ++ (key_text long_key scheme.X long_key ++ codes "U"))) (granted.Use 0) (codes "A700" ++ (sealed_key Zpk scheme.U long_key ++ codes "08D7B4"))

-- an export that is not authorised
abbrev pub A8Refused : Type 0
A8Refused = answers counted_module row_A8 (codes "402" ++ (sealed_key Zmk scheme.U long_key ++ (sealed_key Cvk scheme.U long_key ++ codes "X"))) granted.Refused (codes "A917")

-- the key is sealed under the ZMK
abbrev pub A8Exports : Type 0
A8Exports = answers counted_module row_A8 (codes "402" ++ (sealed_key Zmk scheme.U long_key ++ (sealed_key Cvk scheme.U long_key ++ codes "X"))) (granted.Use 0) (codes "A900" ++ (key_text long_key scheme.X long_key ++ codes "08D7B4"))

-- no BDK is exported
abbrev pub A8Forbidden : Type 0
A8Forbidden = answers counted_module row_A8 (codes "009" ++ (sealed_key Zmk scheme.U long_key ++ (sealed_key Bdk scheme.U long_key ++ codes "X"))) (granted.Use 0) (codes "A929")

-- the check value of a CVK pair
abbrev pub BuWhole : Type 0
BuWhole = answers counted_module row_BU (codes "FF1" ++ (sealed_key Cvk scheme.U long_key ++ codes ";402")) (granted.Use 0) (codes "BV0008D7B4")

-- no BDK is exported as it is generated
abbrev pub A0Forbidden : Type 0
A0Forbidden = answers counted_module row_A0 (codes "1009U;0" ++ (sealed_key Zmk scheme.U long_key ++ codes "X")) (granted.Use 0) (codes "A129")

-- two components, one of zeros
abbrev pub FkJoins : Type 0
FkJoins = answers counted_module row_FK (codes " 402 U 0123456789ABCDEFFEDCBA9876543210 00000000000000000000000000000000") (granted.Use 0) (codes "OK " ++ (sealed_key Cvk scheme.U long_key ++ codes " 08D7B4"))

-- a ZPK of words 0 to 3
abbrev pub A0Draws : Type 0
A0Draws = answers counted_module row_A0 (codes "0001U") (granted.Use 0) (codes "A100" ++ (sealed_key Zpk scheme.U first_drawn ++ check_value first_drawn))

-- a ZPK of words 4 to 7
abbrev pub A0DrawsNext : Type 0
A0DrawsNext = answers counted_module row_A0 (codes "0001U") (granted.Use 4) (codes "A100" ++ (sealed_key Zpk scheme.U second_drawn ++ check_value second_drawn))

-- a component in the clear
abbrev pub GcShows : Type 0
GcShows = answers counted_module row_GC (codes " 001 Z") (granted.Use 0) (codes "OK " ++ (hex_of_bytes (key_bytes (drawn_key counted_module 0 1)) ++ (codes " " ++ (sealed_key Zpk scheme.Z (drawn_key counted_module 0 1) ++ (codes " " ++ check_value (drawn_key counted_module 0 1))))))

-- a PIN of four digits
abbrev pub JaDraws : Type 0
JaDraws = answers counted_module row_JA (account ++ codes "04") (granted.Use 0) (codes "JB00" ++ block_text (sealed_pin counted_set (drawn_digits counted_module 0 4) (map digit_value account)))

-- the TPK opens to even bytes
abbrev pub CaParity : Type 0
CaParity = answers other_pvk_module row_CA (codes "17668DFC7292532D85E813540F0AB40512D5D44FF720683D0D0101" ++ account) (granted.Use 0) (codes "CB10")

-- the PVK opens to even bytes
abbrev pub EaParity : Type 0
EaParity = answers other_pvk_module row_EA (codes "85E813540F0AB40517668DFC7292532D12D5D44FF720683D0D0104" ++ (account ++ codes "012345678901234512345678901N4943FFFFFFFF")) (granted.Use 0) (codes "EB11")

-- a PIN of 12 digits from format 01 to 03
abbrev pub CaTranslates : Type 0
CaTranslates = answers counted_module row_CA (sealed_key Tpk scheme.Z short_key ++ (sealed_key Zpk scheme.Z short_key ++ (codes "12" ++ (enciphered_digits short_key (codes "0C1226622EE882ED") ++ (codes "0103" ++ account))))) (granted.Use 0) (codes "CB0012" ++ (enciphered_digits short_key (codes "123456789012FFFF") ++ codes "03"))

-- a PIN longer than the greatest length is refused with 24
abbrev pub CaLong : Type 0
CaLong = answers counted_module row_CA (sealed_key Tpk scheme.Z short_key ++ (sealed_key Zpk scheme.Z short_key ++ (codes "11" ++ (enciphered_digits short_key (codes "0C1226622EE882ED") ++ (codes "0147" ++ account))))) (granted.Use 0) (codes "CB24")

-- the PIN in the clear
abbrev pub NgShows : Type 0
NgShows = answers counted_module row_NG (account ++ sealed_digits (codes "4621")) (granted.Use 0) (codes "NH004621FFFFFFFF")

-- fewer than four digits are refused with 24
abbrev pub BaShort : Type 0
BaShort = answers counted_module row_BA (codes "123FFFFFFFFF" ++ account) (granted.Use 0) (codes "BB24")

-- the PIN under the LMK
abbrev pub BaSeals : Type 0
BaSeals = answers counted_module row_BA (codes "1234FFFFFFFF" ++ account) (granted.Use 0) (codes "BB00" ++ sealed_digits (codes "1234"))

-- a table of seven different digits is refused with 25
abbrev pub DeTable : Type 0
DeTable = answers counted_module row_DE (sealed_key Tpk scheme.Z short_key ++ (sealed_digits (codes "1234") ++ (codes "04" ++ (account ++ codes "012345601234560112345678901N")))) (granted.Use 0) (codes "DF25")

-- the CVV that CW gives is the card's
abbrev pub CyVerifies : Type 0
CyVerifies = answers counted_module row_CY (sealed_key Cvk scheme.U long_key ++ (drop 4 (answer counted_module row_CW (sealed_key Cvk scheme.U long_key ++ codes "4123456789012345678;8701101") (granted.Use 0)) ++ codes "4123456789012345678;8701101")) (granted.Use 0) (codes "CZ00")

-- the PVV that DG gives is the PIN's
abbrev pub DcVerifies : Type 0
DcVerifies = answers counted_module row_DC (sealed_key Tpk scheme.Z short_key ++ (sealed_key Tpk scheme.U long_key ++ (enciphered_digits short_key (codes "044633CBA9876FED") ++ (codes "01" ++ (account ++ (codes "1" ++ drop 4 (answer counted_module row_DG (sealed_key Tpk scheme.U long_key ++ (sealed_digits (codes "4621") ++ (account ++ codes "1"))) (granted.Use 0)))))))) (granted.Use 0) (codes "DD00")

-- the offset that DE gives is the PIN's
abbrev pub EaOffset : Type 0
EaOffset = answers counted_module row_EA (sealed_key Zpk scheme.Z short_key ++ (sealed_key Tpk scheme.Z short_key ++ (codes "12" ++ (enciphered_digits short_key (codes "041226CBA9876FED") ++ (codes "0104" ++ (account ++ (codes "012345670123456712345678901N" ++ drop 4 (answer counted_module row_DE (sealed_key Tpk scheme.Z short_key ++ (sealed_digits (codes "1234") ++ (codes "04" ++ (account ++ codes "012345670123456712345678901N")))) (granted.Use 0))))))))) (granted.Use 0) (codes "EB00")

-- the LMK check of the equal set
abbrev pub NcChecks : Type 0
NcChecks = answers equal_module row_NC [] (granted.Use 0) (codes "ND0000000000000000000001-LAB1")

-- the chaining values of the first and the second part
abbrev pub chain_one : List ℕ
chain_one = drop 4 (answer equal_module row_M6 (codes "1001100885E813540F0AB40500107654321 Now is t") (granted.Use 0))

abbrev pub chain_two : List ℕ
chain_two = drop 4 (answer equal_module row_M6 (codes "2001100885E813540F0AB405" ++ (chain_one ++ codes "0008he time ")) (granted.Use 0))

-- a MAC in three parts
abbrev pub MacParts : Type 0
MacParts = answers equal_module row_M6 (codes "3001100885E813540F0AB405" ++ (chain_two ++ codes "0004for ")) (granted.Use 0) (codes "M700F1D30F68")

-- a MAC that differs is refused with 01
abbrev pub M8Differs : Type 0
M8Differs = answers equal_module row_M8 (codes "0001100885E813540F0AB405001C7654321 Now is the time for F1D30F69") (granted.Use 0) (codes "M901")

-- a MAC in letters of either case
abbrev pub M8Verifies : Type 0
M8Verifies = answers equal_module row_M8 (codes "0001100885E813540F0AB405001C7654321 Now is the time for f1d30f68") (granted.Use 0) (codes "M900")
