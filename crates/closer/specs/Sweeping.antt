-- The cut of what can't gain more.
use Rattle.std.specs.Prelude.{◌≡◌, ◌≢◌, ◌<◌}
use Rattle.bucket.specs.declared.id.Id.{Id}
use Rattle.label_core.specs.CoreState.{path_of, IsLiveAt}
use Rattle.label_core.specs.Machine.{Machine}
use Rattle.admission.specs.CarefulRuns.{GoesQuietly}
use Rattle.admission.specs.Antichains.{Fades}
use Rattle.strip_model.specs.Plan.{gain_of}
use Rattle.strip_model.specs.Reach.{bound}
use Rattle.strip_model.specs.Side.{facing}
use Rattle.strip_model.specs.declared.end.End.{End}

-- Some labels of the side are cut, so that the bound of each that lives exceeds the incumbent's gain; the other side and the
-- plan are as they were.
pub record SweepsSide (m t : Machine) (e : End) : Type 0 where
  pub quiet : GoesQuietly m t
  pub fades : Fades m t
  pub others : (id : Id) → id.end ≢ e → IsLiveAt m.state id → IsLiveAt t.state id
  pub plan : t.state.incumbent ≡ m.state.incumbent
  pub bounds : (id : Id) → id.end ≡ e → IsLiveAt t.state id
      → gain_of t.instance t.state.incumbent < bound (facing t.instance id.end) (path_of t.state id)
