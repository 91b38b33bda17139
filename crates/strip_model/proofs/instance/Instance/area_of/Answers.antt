use Rattle.std.proofs.Common.{◌<◌, length, ap, arith}
use Rattle.std.proofs.lemmas.List.{get_or_read}
use Rattle.strip_model.proofs.Gains.{whole_area-le}
use Rattle.strip_model.specs.Orbit.{Orbit}
use Rattle.strip_model.proofs.instance.Instance.area_of.Goals as goal

pub returns-clause-bound : goal.returns-clause-bound
returns-clause-bound c =
    let areas = c.self.inside.areas.items in
    let there : c.from.result < length areas =
    omega (arith, c.from.ensures, c.requires, c.self.invariant.one_each, ap (λ (J : Orbit). length J.requests) c.self.view_is) in
    omega (
      arith,
      get_or_read areas c.from.result c.index.result.now there c.index.ensures 0,
      c.self.invariant.each_area c.from.result,
      whole_area-le _ c.from.result c.self.invariant.instance,
    )
