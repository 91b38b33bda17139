use Rattle.std.proofs.Common.{arith}
use Rattle.strip_model.proofs.Horizons.{horizon_of-le}
use Rattle.strip_model.proofs.instance.Instance.horizon.Goals as goal

pub returns-clause-bound : goal.returns-clause-bound
returns-clause-bound c = omega (arith, c.self.invariant.whole_horizon, horizon_of-le _ c.self.invariant.instance)
