use Rattle.std.proofs.Common.{refl}
use lib.Count.{ones}
use Rattle.hsm_text.specs.KeyTexts.{scheme_of, digits_of}
use Rattle.hsm_text.specs.Sizes.{take_size, run_size, word_size, one_of_size, tagged_size, zut_size, xy_size, key_size}
use Rattle.hsm_rows.specs.Explain.{explain_text}
use Rattle.hsm_rows.specs.Forms.{hex_value, wrapper_size, account_size, filled_size, validation_size, is_set_text, set_size, set_number, token_size, types, pair_codes, lengths, size}
use Rattle.hsm_rows.specs.Reading.{is_trailer, set_text_of, behind_set, is_ending, spot_of, read_on}
use Rattle.hsm_rows.specs.Table.{host_rows, console_rows, all_rows}
use Rattle.hsm_answers.specs.Answers.{answer}
use Rattle.hsm_answers.specs.Asks.{asked_words, words_hold, row_ask, ask_read, ask_of}
use Rattle.hsm_answers.specs.Checks.{permit_fault, parts_fault, early_fault, needs_of, data_fault, checks_fault, compared_fault, late_fault, check_read}
use Rattle.hsm_answers.specs.Draws.{drawn_key}
use Rattle.hsm_answers.specs.Keys.{key_of, type_of, lmk_key, key_data_fault, key_fault, keys_fault}
use Rattle.hsm_answers.specs.Macs.{mac_fault, mac_text, chain_text}
use Rattle.hsm_answers.specs.Messages.{enabled_row, message_answer, message_ask}
use Rattle.hsm_answers.specs.Pins.{pin_from, pin_fault}
use Rattle.hsm_answers.specs.Values.{joined_key, secret_key, shown_key, shown_pin, row_value, chain_value, word_count, value_of}
use Rattle.hsm_types.specs.Table.{type_with}
use Rattle.hsm_auth.specs.Activities.{activities, activity_of}
use Rattle.hsm_lmk.specs.Opened.{sealed, opened, all_odd, open_answer}
use Rattle.hsm_lmk.specs.Sealing.{wrap, block_at, block_of}
use Rattle.hsm_tdes.specs.Tdes.{check_value}
use Rattle.hsm_des.specs.Bits.{bits}
use Rattle.hsm_des.specs.Des.{cipher_function, cipher, round_keys, key_bits, encrypted, decrypted}
use Rattle.hsm_des.specs.Merged.{merged_entry}
use Rattle.hsm_des.specs.Tables.{initial_permutation, final_permutation, expansion, box_permutation, key_choice, round_key_choice, left_shifts, box1, box2, box3, box4, box5, box6, box7, box8, boxes}
use Rattle.hsm_des.specs.Words.{key_places, round_key_word, word_places, key_word, upper_exchanged, lower_exchanged}
use Rattle.hsm_pinblock.specs.Blocks.{block_of_pin}
use Rattle.hsm_pinblock.specs.Faults.{field_fault, pin_of_block}
use Rattle.hsm_nibbles.specs.Nibbles.{nibbles, nibbles_of}
use Rattle.hsm_verify.specs.Values.{selected, natural_pin, offset, digit_counts}
use Rattle.hsm_mac.specs.Macs.{block_of_bytes, blocks_of, chained}
use Rattle.law_worked.specs.Modules.{equal_module, counted_module, other_pvk_module}
use Rattle.law_worked.proofs.keys.key_rows.Goals as goal

pub returns : goal.returns
unfolding scheme_of digits_of take_size run_size word_size one_of_size tagged_size zut_size xy_size key_size explain_text hex_value wrapper_size account_size filled_size validation_size token_size types pair_codes lengths size is_trailer set_text_of behind_set is_ending is_set_text set_size set_number spot_of read_on host_rows console_rows all_rows answer asked_words words_hold row_ask ask_read ask_of permit_fault parts_fault early_fault needs_of data_fault checks_fault compared_fault late_fault check_read drawn_key key_of type_of lmk_key key_data_fault key_fault keys_fault mac_fault mac_text chain_text enabled_row message_answer message_ask pin_from pin_fault joined_key secret_key shown_key shown_pin row_value chain_value word_count value_of type_with activities activity_of sealed opened all_odd open_answer wrap block_at block_of check_value bits cipher_function cipher round_keys key_bits encrypted decrypted merged_entry initial_permutation final_permutation expansion box_permutation key_choice round_key_choice left_shifts box1 box2 box3 box4 box5 box6 box7 box8 boxes key_places round_key_word word_places key_word upper_exchanged lower_exchanged block_of_pin field_fault pin_of_block nibbles nibbles_of selected natural_pin offset digit_counts block_of_bytes blocks_of chained equal_module counted_module other_pvk_module ones
returns c = record { a6_repeats = refl; a6_imports = refl; a8_refused = refl; a8_exports = refl; a8_forbidden = refl; bu_whole = refl; a0_forbidden = refl; fk_joins = refl }
