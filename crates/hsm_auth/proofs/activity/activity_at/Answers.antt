use Rattle.std.proofs.Common.{refl}
use Rattle.hsm_auth.proofs.Texts.{names-one, named-set}
use Rattle.hsm_auth.proofs.activity.activity_at.Goals as goal

pub returns-in_err-set : goal.returns-in_err-set
returns-in_err-set c a = (
  λ is. cc,
  λ named.
      let set = named-set c.args.text.now c.in_ok-category.rest.now c.typed-ty.result.1.now c.placed-place.result.1.now c.in_ok-category.category c.typed-ty.result.0 c.placed-place.result.0 c.in_ok-category.ensures c.typed-ty.ensures.split c.placed-place.ensures.split c.typed-ty.ensures.every c.placed-place.ensures.every a named in
      let some = (c.in_err-set.ensures a.set).1 (named.set, set) in cc,
)

pub returns : goal.returns
returns c a =
    let set = (c.in_ok-set.ensures c.in_ok-set.set).0 refl in
    names-one c.args.text.now c.in_ok-category.rest.now c.typed-ty.result.1.now c.placed-place.result.1.now c.in_ok-category.category c.typed-ty.result.0 c.placed-place.result.0 c.in_ok-set.set c.in_ok-category.ensures c.typed-ty.ensures.split c.placed-place.ensures.split set.1 c.typed-ty.ensures.may set.0 a
