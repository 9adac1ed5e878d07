-- Numbers and forms as texts.
use Rattle.std.specs.Prelude.{ℕ, ◌+◌, ◌/◌, ◌%◌, nat_lt, if◌then◌else◌, List, [], ◌∷◌, codes}
use Rattle.hsm_rows.specs.declared.row.Form.{Form}
use Rattle.hsm_rows.specs.declared.row.Form.TheVariants.{Digits1, Digits3, Digits4, Digits12, Digits16, Hex16, Key, Pair, WrappedKey, KeyByFlag, KeyType, MacType, Type2, Flag, Scheme, WrapScheme, Format, Length, Wrapper, Account, ClearPin, Offset, Validation, ZeroToOne, ZeroToTwo, ZeroToThree, OneOrThree, Count, Data, DataByInput, Mode03Mac, TwoZeros, FfSemicolon, FfType, Mode1Wrapper, Mode1Key, Mode1WrapScheme, Mode23Chain, Component, LastComponent, SetNumber, Act, ActOrAll, Minutes, Word}

-- the two decimal digits of a number below 100
abbrev pub two_digits : ℕ → List ℕ
two_digits n = (48 + n / 10) ∷ (48 + n % 10) ∷ []

-- the decimal digits of a number below 100, without a leading zero
abbrev pub number_text : ℕ → List ℕ
number_text n = if nat_lt n 10 then (48 + n) ∷ [] else two_digits n

-- how a form is printed
abbrev pub form_text : Form → List ℕ
form_text Digits1 = codes "1N"
form_text Digits3 = codes "3N"
form_text Digits4 = codes "4N"
form_text Digits12 = codes "12N"
form_text Digits16 = codes "16N"
form_text Hex16 = codes "16H"
form_text Key = codes "K"
form_text Pair = codes "P"
form_text WrappedKey = codes "W"
form_text (KeyByFlag flag) = codes "KF"
form_text KeyType = codes "type"
form_text MacType = codes "mactype"
form_text Type2 = codes "type2"
form_text Flag = codes "flag"
form_text Scheme = codes "scheme"
form_text WrapScheme = codes "wscheme"
form_text Format = codes "format"
form_text Length = codes "len"
form_text Wrapper = codes "[;f]"
form_text Account = codes "pan"
form_text ClearPin = codes "12F"
form_text (Offset check) = codes "offs"
form_text Validation = codes "12V"
form_text ZeroToOne = codes "0to1"
form_text ZeroToTwo = codes "0to2"
form_text ZeroToThree = codes "0to3"
form_text OneOrThree = codes "1or3"
form_text Count = codes "count"
form_text Data = codes "data"
form_text (DataByInput input) = codes "data"
form_text (Mode03Mac mac_size) = codes "mode03:mac"
form_text TwoZeros = codes "00"
form_text (FfSemicolon ty) = codes "FF:;"
form_text (FfType ty) = codes "FF:type"
form_text Mode1Wrapper = codes "mode1:[;f]"
form_text Mode1Key = codes "mode1:K"
form_text Mode1WrapScheme = codes "mode1:wscheme"
form_text Mode23Chain = codes "mode23:16H"
form_text (Component scheme) = codes "comp"
form_text (LastComponent scheme) = codes "[comp]"
form_text SetNumber = codes "[%nn]"
form_text Act = codes "act"
form_text ActOrAll = codes "act*"
form_text Minutes = codes "min"
form_text Word = codes "word"
