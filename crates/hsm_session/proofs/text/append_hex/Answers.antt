use Rattle.std.proofs.Common.{◌∙◌, sym, ap, take, get_or, arith}
use Rattle.std.proofs.lemmas.List.{append-nil, take_more}
use Rattle.std.proofs.lemmas.Grind.{common_steps}
use Rattle.hsm_nibbles.specs.Characters.{hex_of_bytes}
use Rattle.hsm_session.proofs.TextLaws.{hex_of_bytes_push}
use Rattle.hsm_session.proofs.text.append_hex.Goals as goal

pub bytes-init : goal.bytes-init
bytes-init g c = record { items = sym (append-nil _); len = omega arith }

pub bytes-preserved : goal.bytes-preserved
bytes-preserved g c =
    let byte = get_or c.args.bytes.now c.bytes.byte-index 0 in
    let more = take_more c.args.bytes.now c.bytes.byte-index 0 (omega arith) in
    let pushed = ap hex_of_bytes more ∙ hex_of_bytes_push (take c.bytes.byte-index c.args.bytes.now) byte in
    record {
      items = grind (arith, common_steps, pushed);
      len = omega (arith, c.append.ensures.len, c.bytes.invariant.len);
    }
