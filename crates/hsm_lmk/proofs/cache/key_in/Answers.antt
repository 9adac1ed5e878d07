use Rattle.std.proofs.Common.{◌∙◌, sym, ap}
use Rattle.hsm_lmk.specs.Cache.{entry_of, is_of}
use Rattle.hsm_lmk.proofs.CacheLaws.{found_older, found_newer, key_in}
use Rattle.hsm_lmk.proofs.cache.key_in.Goals as goal

pub returns-in-Some : goal.returns-in-Some
returns-in-Some c =
    let p = is_of c.args.set c.args.ty c.args.scheme c.args.text.now in
    let found = sym c.key_among.ensures ∙ c.in-Some.is in
    sym (found_older p _ _ _ found) ∙ ap (λ es. key_in (entry_of c.args.set c.args.ty c.args.scheme c.args.text.now es)) c.as_slices.ensures

pub returns-in-None : goal.returns-in-None
returns-in-None c =
    let p = is_of c.args.set c.args.ty c.args.scheme c.args.text.now in
    let missed = sym c.key_among.ensures ∙ c.in-None.is in
    c.key_among-in-None.ensures ∙ (sym (found_newer p _ _ missed) ∙ ap (λ es. key_in (entry_of c.args.set c.args.ty c.args.scheme c.args.text.now es)) c.as_slices.ensures)
