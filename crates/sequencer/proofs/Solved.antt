-- What `solve` answers, from what the search came to.
use Rattle.std.proofs.Common.{ℕ, List, Option, sym, ◌∙◌, ap, subst}
use Rattle.std.specs.List.{flat_map}
use Rattle.instance_text.specs.Text.{IsText}
use Rattle.proof_log.specs.AnswerText.{best_lines}
use Rattle.seq_io.specs.Line.{spelled_line}
use Rattle.sequencer.proofs.Accepting.{accepted_behind}
use Rattle.sequencer.specs.Searching.{IsSolution, FitsText, Tells}
use Rattle.sequencer.specs.Solving.{Solves}
use Rattle.sequencer.specs.declared.solution.Solution.{Solution}
use Rattle.sequencer.specs.declared.solution.Solution.TheVariants.{Optimal as Proved, Open}
use Rattle.sequencer.specs.declared.status.Status.{Status}
use Rattle.strip_model.specs.Orbit.{Orbit}

pub fits_text : (workers budget : ℕ) (cut : Option ℕ) (J : Orbit) (solution : Solution) → IsSolution workers budget cut J solution → FitsText solution
fits_text workers budget cut J (Proved log) h = h.in_text
fits_text workers budget cut J (Open plan gain labels) h = tt

pub solves : (workers budget : ℕ) (cut : Option ℕ) (J : Orbit) (solution : Solution) (input text : List ℕ) (status : Status) → IsText input J
    → IsSolution workers budget cut J solution → Tells solution text status → Solves workers budget cut input text status
solves workers budget cut J (Proved log) input text status read h told =
    subst (λ (s : Status). Solves workers budget cut input text s) (sym told.1)
    (record {
      instance = J;
      read = read;
      log = log;
      said = told.0;
      proved = h;
      checked = accepted_behind J input text log read told.0 h.proof h.optimal;
    })
solves workers budget cut J (Open plan gain labels) input text status read h told =
    subst (λ (s : Status). Solves workers budget cut input text s) (sym told.1)
    (record {
      instance = J;
      read = read;
      plan = plan.items;
      labels = labels;
      unsettled = h.0;
      written = told.0 ∙ ap (λ (g : ℕ). flat_map spelled_line (best_lines g plan.items labels)) h.1;
    })
