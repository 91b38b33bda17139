use Rattle.gain_curve.proofs.CurveLaws.{phi-greatest_line, phi-rises, phi-convex, phi-under_chord, phi-zero, phi-whole}
use Rattle.gain_curve.proofs.laws.curve_laws.Goals as goal

pub returns-clause-greatest_line : goal.returns-clause-greatest_line
returns-clause-greatest_line c = phi-greatest_line

pub returns-clause-never_falls : goal.returns-clause-never_falls
returns-clause-never_falls c = phi-rises

pub returns-clause-convex : goal.returns-clause-convex
returns-clause-convex c = phi-convex

pub returns-clause-nothing_acquired : goal.returns-clause-nothing_acquired
returns-clause-nothing_acquired c = phi-zero

pub returns-clause-all_acquired : goal.returns-clause-all_acquired
returns-clause-all_acquired c = phi-whole

pub returns-clause-under_chord : goal.returns-clause-under_chord
returns-clause-under_chord c = phi-under_chord
