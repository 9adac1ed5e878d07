use Rattle.std.proofs.Common.{sym, ◌∙◌, inr}
use Rattle.toml.specs.View.{table_view}
use Rattle.hsm_config.proofs.ReadLaws.{different_told, host_told, if_err, if_ok, not_read, odd_told, read_is}
use Rattle.hsm_config.proofs.configuration.Config.read.Goals as goal

pub returns-in-Ok-clause-ok : goal.returns-in-Ok-clause-ok
returns-in-Ok-clause-ok c =
    let read = read_is c.args.bytes.now (table_view c.in-Ok.table) c.in-Ok.ensures.ok.0 c.in-Ok.ensures.ok.1 in
    if_ok c.args.bytes.now c.config_of.result (read ∙ sym c.config_of.ensures)

pub returns-in-Ok-clause-refused : goal.returns-in-Ok-clause-refused
returns-in-Ok-clause-refused c =
    let read = read_is c.args.bytes.now (table_view c.in-Ok.table) c.in-Ok.ensures.ok.0 c.in-Ok.ensures.ok.1 in
    if_err c.args.bytes.now c.config_of.result (read ∙ sym c.config_of.ensures)

pub returns-in-Ok-clause-odd : goal.returns-in-Ok-clause-odd
returns-in-Ok-clause-odd c = odd_told (table_view c.in-Ok.table) c.config_of.result c.config_of.ensures

pub returns-in-Ok-clause-some_host : goal.returns-in-Ok-clause-some_host
returns-in-Ok-clause-some_host c = host_told (table_view c.in-Ok.table) c.config_of.result c.config_of.ensures

pub returns-in-Ok-clause-different : goal.returns-in-Ok-clause-different
returns-in-Ok-clause-different c = different_told (table_view c.in-Ok.table) c.config_of.result c.config_of.ensures

pub returns-else-is_memory-clause-refused : goal.returns-else-is_memory-clause-refused
returns-else-is_memory-clause-refused c =
    inr (not_read c.args.bytes.now (c.in-Err.ensures.refused (λ memory. cc (c.is_memory.ensures.1 memory, c.if-is_memory.false))))
