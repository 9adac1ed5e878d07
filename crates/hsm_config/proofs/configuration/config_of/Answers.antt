use Rattle.std.proofs.Common.{false, true, map, codes, sym, ◌∙◌}
use Rattle.toml.specs.View.{table_view, view}
use Rattle.hsm_config.specs.Document.{number_at}
use Rattle.hsm_config.specs.Rules.{has_pairs, pairs_of}
use Rattle.hsm_config.proofs.RuleLaws.{breaks_1, breaks_2, breaks_3, breaks_4, breaks_5, breaks_6, breaks_7, breaks_8, breaks_9, breaks_10, breaks_none}
use Rattle.hsm_config.proofs.Parts.{different_ports, no_officers, no_ports, odd_pairs, officers_there, ports_there, refused, whole}
use Rattle.hsm_config.proofs.TestedAnswers.{no_number, none_if, number_there, some_if}
use Rattle.hsm_config.proofs.configuration.config_of.Goals as goal

pub returns-then-not-has_known_keys : goal.returns-then-not-has_known_keys
returns-then-not-has_known_keys c =
    let d = table_view c.args.table.now in
    let broken = sym c.has_known_keys.ensures ∙ c.if-not-has_known_keys.true in
    refused d 1 (breaks_1 d broken)

pub returns-in_default : goal.returns-in_default
returns-in_default c =
    let d = table_view c.args.table.now in
    let keys = sym c.has_known_keys.ensures ∙ c.if-not-has_known_keys.false in
    let broken = no_number 1 1 (number_at (codes "version") d) c.number_at.result c.number_at.ensures c.in_default.is in
    refused d 2 (breaks_2 d keys broken)

pub returns-in_default-number_at : goal.returns-in_default-number_at
returns-in_default-number_at c =
    let d = table_view c.args.table.now in
    let keys = sym c.has_known_keys.ensures ∙ c.if-not-has_known_keys.false in
    let version = number_there 1 1 (number_at (codes "version") d) c.number_at.result c.in-Some.field-0 c.number_at.ensures c.in-Some.is in
    let broken = no_number 0 255 (number_at (codes "header") d) c.number_at-2.result c.number_at-2.ensures c.in_default-number_at.is in
    refused d 3 (breaks_3 d keys version.0 broken)

pub returns-in_default-all_hex_bytes : goal.returns-in_default-all_hex_bytes
returns-in_default-all_hex_bytes c =
    let d = table_view c.args.table.now in
    let keys = sym c.has_known_keys.ensures ∙ c.if-not-has_known_keys.false in
    let version = number_there 1 1 (number_at (codes "version") d) c.number_at.result c.in-Some.field-0 c.number_at.ensures c.in-Some.is in
    let header =
    number_there 0 255 (number_at (codes "header") d) c.number_at-2.result c.in-Some-number_at.header c.number_at-2.ensures
    c.in-Some-number_at.is in
    let broken =
    no_officers d (map view c.elements_at.result.now) c.all_hex_bytes.result c.elements_at.ensures c.all_hex_bytes.ensures
    c.in_default-all_hex_bytes.is in
    refused d 4 (breaks_4 d keys version.0 header.0 broken)

pub returns-in_default-pairs_of : goal.returns-in_default-pairs_of
returns-in_default-pairs_of c =
    let d = table_view c.args.table.now in
    let keys = sym c.has_known_keys.ensures ∙ c.if-not-has_known_keys.false in
    let version = number_there 1 1 (number_at (codes "version") d) c.number_at.result c.in-Some.field-0 c.number_at.ensures c.in-Some.is in
    let header =
    number_there 0 255 (number_at (codes "header") d) c.number_at-2.result c.in-Some-number_at.header c.number_at-2.ensures
    c.in-Some-number_at.is in
    let officers =
    officers_there d (map view c.elements_at.result.now) c.all_hex_bytes.result c.in-Some-all_hex_bytes.officers c.elements_at.ensures
    c.all_hex_bytes.ensures c.in-Some-all_hex_bytes.is in
    let broken = none_if (has_pairs d) (pairs_of d) c.pairs_of.result c.pairs_of.ensures c.in_default-pairs_of.is in
    refused d 5 (breaks_5 d keys version.0 header.0 officers.0 broken)

pub returns-then-not-are_odd : goal.returns-then-not-are_odd
returns-then-not-are_odd c =
    let d = table_view c.args.table.now in
    let keys = sym c.has_known_keys.ensures ∙ c.if-not-has_known_keys.false in
    let version = number_there 1 1 (number_at (codes "version") d) c.number_at.result c.in-Some.field-0 c.number_at.ensures c.in-Some.is in
    let header =
    number_there 0 255 (number_at (codes "header") d) c.number_at-2.result c.in-Some-number_at.header c.number_at-2.ensures
    c.in-Some-number_at.is in
    let officers =
    officers_there d (map view c.elements_at.result.now) c.all_hex_bytes.result c.in-Some-all_hex_bytes.officers c.elements_at.ensures
    c.all_hex_bytes.ensures c.in-Some-all_hex_bytes.is in
    let pairs = some_if (has_pairs d) (pairs_of d) c.in-Some-pairs_of.pairs c.pairs_of.result c.pairs_of.ensures c.in-Some-pairs_of.is in
    let broken = odd_pairs d c.in-Some-pairs_of.pairs false pairs.1 (sym c.are_odd.ensures ∙ c.if-not-are_odd.true) in
    refused d 6 (breaks_6 d keys version.0 header.0 officers.0 pairs.0 broken)

pub returns-in_default-number_at-2 : goal.returns-in_default-number_at-2
returns-in_default-number_at-2 c =
    let d = table_view c.args.table.now in
    let keys = sym c.has_known_keys.ensures ∙ c.if-not-has_known_keys.false in
    let version = number_there 1 1 (number_at (codes "version") d) c.number_at.result c.in-Some.field-0 c.number_at.ensures c.in-Some.is in
    let header =
    number_there 0 255 (number_at (codes "header") d) c.number_at-2.result c.in-Some-number_at.header c.number_at-2.ensures
    c.in-Some-number_at.is in
    let officers =
    officers_there d (map view c.elements_at.result.now) c.all_hex_bytes.result c.in-Some-all_hex_bytes.officers c.elements_at.ensures
    c.all_hex_bytes.ensures c.in-Some-all_hex_bytes.is in
    let pairs = some_if (has_pairs d) (pairs_of d) c.in-Some-pairs_of.pairs c.pairs_of.result c.pairs_of.ensures c.in-Some-pairs_of.is in
    let odd = odd_pairs d c.in-Some-pairs_of.pairs true pairs.1 (sym c.are_odd.ensures ∙ c.if-not-are_odd.false) in
    let broken = no_number 1 65535 (number_at (codes "console_port") d) c.number_at-3.result c.number_at-3.ensures c.in_default-number_at-2.is in
    refused d 7 (breaks_7 d keys version.0 header.0 officers.0 pairs.0 odd broken)

pub returns-in_default-host_ports_of : goal.returns-in_default-host_ports_of
returns-in_default-host_ports_of c =
    let d = table_view c.args.table.now in
    let keys = sym c.has_known_keys.ensures ∙ c.if-not-has_known_keys.false in
    let version = number_there 1 1 (number_at (codes "version") d) c.number_at.result c.in-Some.field-0 c.number_at.ensures c.in-Some.is in
    let header =
    number_there 0 255 (number_at (codes "header") d) c.number_at-2.result c.in-Some-number_at.header c.number_at-2.ensures
    c.in-Some-number_at.is in
    let officers =
    officers_there d (map view c.elements_at.result.now) c.all_hex_bytes.result c.in-Some-all_hex_bytes.officers c.elements_at.ensures
    c.all_hex_bytes.ensures c.in-Some-all_hex_bytes.is in
    let pairs = some_if (has_pairs d) (pairs_of d) c.in-Some-pairs_of.pairs c.pairs_of.result c.pairs_of.ensures c.in-Some-pairs_of.is in
    let odd = odd_pairs d c.in-Some-pairs_of.pairs true pairs.1 (sym c.are_odd.ensures ∙ c.if-not-are_odd.false) in
    let console =
    number_there 1 65535 (number_at (codes "console_port") d) c.number_at-3.result c.in-Some-number_at-2.console_port
    c.number_at-3.ensures c.in-Some-number_at-2.is in
    let broken = no_ports d c.host_ports_of.result c.host_ports_of.ensures c.in_default-host_ports_of.is in
    refused d 8 (breaks_8 d keys version.0 header.0 officers.0 pairs.0 odd console.0 broken)

pub returns-then-not-are_different : goal.returns-then-not-are_different
returns-then-not-are_different c =
    let d = table_view c.args.table.now in
    let keys = sym c.has_known_keys.ensures ∙ c.if-not-has_known_keys.false in
    let version = number_there 1 1 (number_at (codes "version") d) c.number_at.result c.in-Some.field-0 c.number_at.ensures c.in-Some.is in
    let header =
    number_there 0 255 (number_at (codes "header") d) c.number_at-2.result c.in-Some-number_at.header c.number_at-2.ensures
    c.in-Some-number_at.is in
    let officers =
    officers_there d (map view c.elements_at.result.now) c.all_hex_bytes.result c.in-Some-all_hex_bytes.officers c.elements_at.ensures
    c.all_hex_bytes.ensures c.in-Some-all_hex_bytes.is in
    let pairs = some_if (has_pairs d) (pairs_of d) c.in-Some-pairs_of.pairs c.pairs_of.result c.pairs_of.ensures c.in-Some-pairs_of.is in
    let odd = odd_pairs d c.in-Some-pairs_of.pairs true pairs.1 (sym c.are_odd.ensures ∙ c.if-not-are_odd.false) in
    let console =
    number_there 1 65535 (number_at (codes "console_port") d) c.number_at-3.result c.in-Some-number_at-2.console_port
    c.number_at-3.ensures c.in-Some-number_at-2.is in
    let hosts = ports_there d c.host_ports_of.result c.in-Some-host_ports_of.host_ports c.host_ports_of.ensures c.in-Some-host_ports_of.is in
    let broken =
    different_ports d c.in-Some-number_at-2.console_port c.deref.result.now false console.1 (c.deref.ensures.0 ∙ hosts.1)
    (sym c.are_different.ensures ∙ c.if-not-are_different.true) in
    refused d 9 (breaks_9 d keys version.0 header.0 officers.0 pairs.0 odd console.0 hosts.0 broken)

pub returns-in_default-number_at-3 : goal.returns-in_default-number_at-3
returns-in_default-number_at-3 c =
    let d = table_view c.args.table.now in
    let keys = sym c.has_known_keys.ensures ∙ c.if-not-has_known_keys.false in
    let version = number_there 1 1 (number_at (codes "version") d) c.number_at.result c.in-Some.field-0 c.number_at.ensures c.in-Some.is in
    let header =
    number_there 0 255 (number_at (codes "header") d) c.number_at-2.result c.in-Some-number_at.header c.number_at-2.ensures
    c.in-Some-number_at.is in
    let officers =
    officers_there d (map view c.elements_at.result.now) c.all_hex_bytes.result c.in-Some-all_hex_bytes.officers c.elements_at.ensures
    c.all_hex_bytes.ensures c.in-Some-all_hex_bytes.is in
    let pairs = some_if (has_pairs d) (pairs_of d) c.in-Some-pairs_of.pairs c.pairs_of.result c.pairs_of.ensures c.in-Some-pairs_of.is in
    let odd = odd_pairs d c.in-Some-pairs_of.pairs true pairs.1 (sym c.are_odd.ensures ∙ c.if-not-are_odd.false) in
    let console =
    number_there 1 65535 (number_at (codes "console_port") d) c.number_at-3.result c.in-Some-number_at-2.console_port
    c.number_at-3.ensures c.in-Some-number_at-2.is in
    let hosts = ports_there d c.host_ports_of.result c.in-Some-host_ports_of.host_ports c.host_ports_of.ensures c.in-Some-host_ports_of.is in
    let different =
    different_ports d c.in-Some-number_at-2.console_port c.deref.result.now true console.1 (c.deref.ensures.0 ∙ hosts.1)
    (sym c.are_different.ensures ∙ c.if-not-are_different.false) in
    let broken = no_number 1 4096 (number_at (codes "accept") d) c.number_at-4.result c.number_at-4.ensures c.in_default-number_at-3.is in
    refused d 10 (breaks_10 d keys version.0 header.0 officers.0 pairs.0 odd console.0 hosts.0 different broken)

pub returns : goal.returns
returns c =
    let d = table_view c.args.table.now in
    let keys = sym c.has_known_keys.ensures ∙ c.if-not-has_known_keys.false in
    let version = number_there 1 1 (number_at (codes "version") d) c.number_at.result c.in-Some.field-0 c.number_at.ensures c.in-Some.is in
    let header =
    number_there 0 255 (number_at (codes "header") d) c.number_at-2.result c.in-Some-number_at.header c.number_at-2.ensures
    c.in-Some-number_at.is in
    let officers =
    officers_there d (map view c.elements_at.result.now) c.all_hex_bytes.result c.in-Some-all_hex_bytes.officers c.elements_at.ensures
    c.all_hex_bytes.ensures c.in-Some-all_hex_bytes.is in
    let pairs = some_if (has_pairs d) (pairs_of d) c.in-Some-pairs_of.pairs c.pairs_of.result c.pairs_of.ensures c.in-Some-pairs_of.is in
    let odd = odd_pairs d c.in-Some-pairs_of.pairs true pairs.1 (sym c.are_odd.ensures ∙ c.if-not-are_odd.false) in
    let console =
    number_there 1 65535 (number_at (codes "console_port") d) c.number_at-3.result c.in-Some-number_at-2.console_port
    c.number_at-3.ensures c.in-Some-number_at-2.is in
    let hosts = ports_there d c.host_ports_of.result c.in-Some-host_ports_of.host_ports c.host_ports_of.ensures c.in-Some-host_ports_of.is in
    let different =
    different_ports d c.in-Some-number_at-2.console_port c.deref.result.now true console.1 (c.deref.ensures.0 ∙ hosts.1)
    (sym c.are_different.ensures ∙ c.if-not-are_different.false) in
    let accept =
    number_there 1 4096 (number_at (codes "accept") d) c.number_at-4.result c.in-Some-number_at-3.accept c.number_at-4.ensures
    c.in-Some-number_at-3.is in
    let none = breaks_none d keys version.0 header.0 officers.0 pairs.0 odd console.0 hosts.0 different accept.0 in
    whole d c.in-Some-number_at.header c.in-Some-all_hex_bytes.officers c.in-Some-pairs_of.pairs c.in-Some-number_at-2.console_port
    c.in-Some-host_ports_of.host_ports c.in-Some-number_at-3.accept none header.1 officers.1 pairs.1 console.1 hosts.1 accept.1
