-- Keys, PINs and reply fields of a message.
use Rattle.std.specs.Prelude.{ℕ, zero, suc, ◌-◌, ◌*◌, Bool, true, false, ◌||◌, ◌==◌, if◌then◌else◌, List, [], ◌∷◌, ◌++◌, length, take, drop, map, flat_map, replicate, bit_xor, codes}
use Rattle.std.specs.Fmt.{decimal}
use Rattle.hsm_types.specs.declared.types.Scheme.{Scheme}
use Rattle.hsm_types.specs.Schemes.{scheme_parts}
use Rattle.hsm_parity.specs.Parity.{adjusted}
use Rattle.hsm_tdes.specs.Tdes.{enciphered, check_value, key_bytes}
use Rattle.hsm_nibbles.specs.Nibbles.{block_of}
use Rattle.hsm_nibbles.specs.Characters.{hex_character, digit_value, bytes_of_hex, hex_of_bytes}
use Rattle.hsm_lmk.specs.Sealing.{wrap, lmk_check}
use Rattle.hsm_pinblock.specs.Blocks.{block_of_pin, sealed_pin}
use Rattle.hsm_verify.specs.Values.{pvv, natural_pin, offset, cvv}
use Rattle.hsm_auth.specs.declared.entry.Grant.{Grant}
use Rattle.hsm_auth.specs.declared.entry.Note.{Note}
use Rattle.hsm_auth.specs.declared.entry.Kind.{Kind}
use Rattle.hsm_auth.specs.declared.entry.Kind.TheVariants as kind
use Rattle.hsm_auth.specs.declared.entry.Granted.{Granted}
use Rattle.hsm_auth.specs.declared.entry.Granted.TheVariants as granted
use Rattle.hsm_auth.specs.Activities.{text_of}
use Rattle.hsm_rows.specs.declared.row.Secret.{Secret}
use Rattle.hsm_rows.specs.declared.row.Secret.TheVariants.{Opened, OpenedUnder, DrawnKey, Joined}
use Rattle.hsm_rows.specs.declared.row.Public.{Public}
use Rattle.hsm_rows.specs.declared.row.Public.TheVariants.{Given, Fixed, Sealed, SealedUnder, CheckValue, SealedPin, BlockUnder, PinLength, Value, Chain, LmkCheck, LiveGrants, Hosts, Done, Cancelled, Grants, Numbers, Notes, ShowKey, ShowPin}
use Rattle.hsm_rows.specs.Table.{Term, plain_text, term}
use Rattle.hsm_rows.specs.Texts.{two_digits}
use Rattle.hsm_rows.specs.Reading.{ReadText}
use Rattle.hsm_rows.specs.declared.rules.ValueSource.{ValueSource}
use Rattle.hsm_rows.specs.declared.rules.Words.{Words}
use Rattle.hsm_rows.specs.declared.rules.Words.TheVariants.{NoWords, TwoPerPart, AsLength, FillOf}
use Rattle.hsm_rows.specs.declared.rules.ValueSource.TheVariants.{NoValue, PvvOf, OffsetOf, CvvOf, MacOf}
use Rattle.hsm_answers.specs.Read.{ReadMessage}
use Rattle.hsm_answers.specs.Keys.{field_text, is_absent, set_of, scheme_at, type_of, lmk_key, wrapped_key, key_text}
use Rattle.hsm_answers.specs.Draws.{drawn_key, drawn_fill}
use Rattle.hsm_answers.specs.Pins.{digits_at, block_text, number_at, format_at, pin_of, given_pin, pin_account, fill_length}
use Rattle.hsm_answers.specs.Macs.{ends_message, mac_text, chain_text}

-- the place of the first random word of a granted use
abbrev pub first_of : Granted → ℕ
first_of (granted.Use first) = first
first_of _ = 0

-- exclusive-or byte by byte; an absent one changes nothing
abbrev pub xor_bytes : List ℕ → List ℕ → List ℕ
xor_bytes xs [] = xs
xor_bytes [] ys = ys
xor_bytes (x ∷ xs) (y ∷ ys) = bit_xor x y ∷ xor_bytes xs ys

-- the exclusive-or of the components
abbrev pub joined_bytes : ReadText → List ℕ → List ℕ
joined_bytes r [] = []
joined_bytes r (k ∷ ks) = xor_bytes (bytes_of_hex (field_text r k)) (joined_bytes r ks)

-- the parts of a key of 8, 16 or 24 bytes
abbrev pub parts_of_bytes : ℕ → List ℕ → List (List ℕ)
parts_of_bytes zero bytes = []
parts_of_bytes (suc n) bytes = take 8 bytes ∷ parts_of_bytes n (drop 8 bytes)

-- the scheme of the key that the row makes
abbrev pub made_scheme : ReadMessage → Scheme
made_scheme q = scheme_at q.read q.rules.made.scheme

-- the number of parts of the key that the row makes
abbrev pub made_parts : ReadMessage → ℕ
made_parts q = scheme_parts (made_scheme q)

-- the key of the components: their exclusive-or, adjusted to odd parity
unfoldable pub joined_key : ReadMessage → List (List ℕ)
joined_key q = parts_of_bytes (made_parts q) (adjusted (joined_bytes q.read q.rules.components))

-- the key that a secret is; a drawn one has its words from the place on
unfoldable pub secret_key : ReadMessage → ℕ → Secret → List (List ℕ)
secret_key q place (Opened k) = lmk_key q k
secret_key q place (OpenedUnder k kek) = wrapped_key q k kek
secret_key q place DrawnKey = drawn_key q.«module» place (made_parts q)
secret_key q place Joined = joined_key q

-- digits with F to 12 characters
abbrev pub filled_to_twelve : List ℕ → List ℕ
filled_to_twelve digits = map hex_character (digits ++ replicate (12 - length digits) 15)

-- a key in the clear, in hexadecimal
unfoldable pub shown_key : ReadMessage → ℕ → Secret → List ℕ
shown_key q place s = hex_of_bytes (key_bytes (secret_key q place s))

-- the row's PIN in the clear, with F to 12 characters
unfoldable pub shown_pin : ReadMessage → ℕ → List ℕ
shown_pin q place = filled_to_twelve (pin_of q place)

-- a character of the validation data: the last 5 account digits stand for N
abbrev pub validation_digit : List ℕ → ℕ → List ℕ
validation_digit account c = if c == 78 then drop 7 account else digit_value c ∷ []

-- the block of the validation data
abbrev pub validation_block : List ℕ → List ℕ → ℕ
validation_block text account = block_of (flat_map (validation_digit account) text)

-- the account number, which ends with a semicolon
abbrev pub pan_digits : ReadText → ℕ → List ℕ
pan_digits r k = map digit_value (take (length (field_text r k) - 1) (field_text r k))

-- the first key of a pair
abbrev pub first_part : List (List ℕ) → List (List ℕ)
first_part key = take 1 key

-- the second key of a pair
abbrev pub second_part : List (List ℕ) → List (List ℕ)
second_part key = drop 1 key

-- the index, one digit
abbrev pub index_at : ReadText → ℕ → ℕ
index_at r k = block_of (digits_at r k)

-- the row's value of its PIN or data, as it is written
unfoldable pub row_value : ReadMessage → ValueSource → List ℕ
row_value q NoValue = []
row_value q (PvvOf pair index) =
    map hex_character (pvv (first_part (lmk_key q pair)) (second_part (lmk_key q pair)) (pin_account q.read q.rules.pin) (index_at q.read index) (given_pin q))
row_value q (OffsetOf pvk table validation check) =
    map hex_character (offset (natural_pin (lmk_key q pvk) (digits_at q.read table) (validation_block (field_text q.read validation) (pin_account q.read q.rules.pin))) (given_pin q) (number_at q.read check))
row_value q (CvvOf pair pan expiry service) =
    map hex_character (cvv (first_part (lmk_key q pair)) (second_part (lmk_key q pair)) (pan_digits q.read pan) (digits_at q.read expiry) (digits_at q.read service))
row_value q (MacOf f) = if ends_message q.read f then mac_text q f else []

-- the chaining value, in modes 1 and 2
unfoldable pub chain_value : ReadMessage → ValueSource → List ℕ
chain_value q (MacOf f) = if ends_message q.read f then [] else chain_text q f
chain_value q _ = []

-- the random words of a message whose checks all pass
unfoldable pub word_count : ReadMessage → Words → ℕ
word_count q NoWords = 0
word_count q (TwoPerPart k) = 2 * scheme_parts (scheme_at q.read k)
word_count q (AsLength k) = number_at q.read k
word_count q (FillOf k) = fill_length (format_at q.read k) (given_pin q)

-- the block of the PIN in the format that field k names, its fill drawn from the place on
abbrev pub translated_block : ReadMessage → ℕ → ℕ → ℕ
translated_block q place k =
    block_of_pin (format_at q.read k) (given_pin q) (pin_account q.read q.rules.pin) (drawn_fill q.«module» (format_at q.read k) place (fill_length (format_at q.read k) (given_pin q)))

-- the letter of a note's kind
abbrev pub kind_letter : Kind → List ℕ
kind_letter kind.Use = codes "U"
kind_letter kind.Authorise = codes "A"
kind_letter kind.Cancel = codes "C"
kind_letter kind.CancelAll = codes "X"
kind_letter kind.Look = codes "L"
kind_letter kind.Recent = codes "R"

-- `+` for a good answer
abbrev pub verdict : Bool → List ℕ
verdict true = codes "+"
verdict false = codes "-"

-- `activity=end`
abbrev pub grant_text : Grant → List ℕ
grant_text g = text_of g.activity ++ (codes "=" ++ decimal g.end)

-- `number:moment:kind:verdict`
abbrev pub note_text : Note → List ℕ
note_text n = decimal n.number ++ (codes ":" ++ (decimal n.moment ++ (codes ":" ++ (kind_letter n.kind ++ (codes ":" ++ verdict n.good)))))

-- texts with one space before each
abbrev pub spaced : List (List ℕ) → List ℕ
spaced [] = []
spaced (t ∷ ts) = codes " " ++ (t ++ spaced ts)

-- the number of texts, then the texts, each after one space
abbrev pub counted : List (List ℕ) → List ℕ
counted ts = decimal (length ts) ++ spaced ts

-- the live grants that were seen
abbrev pub live_of : Granted → List Grant
live_of (granted.Seen moment place grants) = grants.items
live_of _ = []

-- the notes that were seen
abbrev pub notes_of : Granted → List Note
notes_of (granted.Recent notes) = notes.items
notes_of _ = []

-- the number of grants that were cancelled
abbrev pub cancelled_of : Granted → ℕ
cancelled_of (granted.Cancelled count) = count
cancelled_of _ = 0

-- moment, random place and the number of live grants
abbrev pub numbers_text : Granted → List ℕ
numbers_text (granted.Seen moment place grants) = decimal moment ++ (codes " " ++ (decimal place ++ (codes " " ++ decimal (length grants.items))))
numbers_text _ = []

-- the value of a reply term, for the answer at the entry
unfoldable pub value_of : ReadMessage → Granted → Public → List ℕ
value_of q g (Given k) = field_text q.read k
value_of q g (Fixed text) = text.now
value_of q g (Sealed s) = key_text (wrap (set_of q) (type_of q.read q.rules.made.ty)) (made_scheme q) (secret_key q (first_of g) s)
value_of q g (SealedUnder s kek) =
    if is_absent q.read kek || is_absent q.read q.rules.made.wrap_scheme then []
    else key_text (lmk_key q kek) (scheme_at q.read q.rules.made.wrap_scheme) (secret_key q (first_of g) s)
value_of q g (CheckValue s) = check_value (secret_key q (first_of g) s)
value_of q g SealedPin = block_text (sealed_pin (set_of q) (pin_of q (first_of g)) (pin_account q.read q.rules.pin))
value_of q g (BlockUnder format key) = block_text (enciphered (lmk_key q key) (translated_block q (first_of g) format))
value_of q g PinLength = two_digits (length (pin_of q (first_of g)))
value_of q g Value = row_value q q.rules.value
value_of q g Chain = chain_value q q.rules.value
value_of q g LmkCheck = block_text (lmk_check (set_of q))
value_of q g LiveGrants = two_digits (length (live_of g))
value_of q g Hosts = two_digits q.«module».hosts
value_of q g Done = []
value_of q g Cancelled = decimal (cancelled_of g)
value_of q g Grants = counted (map grant_text (live_of g))
value_of q g Numbers = numbers_text g
value_of q g Notes = counted (map note_text (notes_of g))
value_of q g (ShowKey s) = shown_key q (first_of g) s
value_of q g ShowPin = shown_pin q (first_of g)

-- the value of a reply field
abbrev pub value : ReadMessage → Granted → Term → List ℕ
value q g (plain_text t) = t
value q g (term t) = value_of q g t

-- the values of the reply fields
abbrev pub values : ReadMessage → Granted → List Term → List (List ℕ)
values q g ts = map (value q g) ts
