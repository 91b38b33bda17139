-- When the windows of made strips end.
use Rattle.std.specs.Prelude.{◌≤◌}
use Rattle.inst_maker.specs.declared.limits.TheConstants.{MAX_END}
use Rattle.strip_model.specs.Orbit.{window_of}
use Rattle.strip_model.specs.declared.strip.Strip.{Strip}
use Rattle.strip_model.specs.declared.window.Window.{Window}

-- neither end of a window is past the limit
pub record EndsEarly (w : Window) : Type 0 where
  pub early : w.early ≤ MAX_END
  pub late : w.late ≤ MAX_END

-- nor is one of either window of a strip
pub record HasEarlyEnds (s : Strip) : Type 0 where
  pub forth : EndsEarly (window_of s 0)
  pub back : EndsEarly (window_of s 1)
