-- What `trial` answers, from what the search came to.
use Rattle.std.proofs.Common.{◌≡◌, ℕ, List, Option, sym, ◌∙◌, ap, subst}
use Rattle.inst_maker.specs.Made.{made}
use Rattle.proof_log.specs.declared.log.Log.{Log}
use Rattle.sequencer.specs.Searching.{IsProved}
use Rattle.sequencer.specs.Tasks.{IsTaskFor}
use Rattle.sequencer.specs.Texts.{proved_text}
use Rattle.sequencer.specs.Trying.{Tries}
use Rattle.sequencer.specs.declared.status.Status.{Status}
use Rattle.sequencer.specs.declared.status.Status.TheVariants.{Done}
use Rattle.sequencer.specs.declared.task.Task.{Task}
use Rattle.strip_model.specs.Orbit.{Orbit}
use Rattle.strip_model.specs.Plan.{gain_of}

tried_out : (seed size budget : ℕ) (cut : Option ℕ) (J : Orbit) (log : Log) (text : List ℕ) (status : Status) → J ≡ made seed size
    → IsProved 0 budget cut J log → text ≡ proved_text seed size (gain_of J log.plan.items) → status ≡ Done → Tries seed size budget cut text status
tried_out seed size budget cut J log text status is proved written done =
    subst (λ (s : Status). Tries seed size budget cut text s) (sym done)
    (record {
      log = log;
      proved = subst (λ (I : Orbit). IsProved 0 budget cut I log) is proved;
      written = written ∙ ap (λ (I : Orbit). proved_text seed size (gain_of I log.plan.items)) is;
    })

-- what came of the search that was asked for
module _ (seed size budget : ℕ) (cut : Option ℕ) (J : Orbit) (t : Task) (is : J ≡ made seed size) (asked : IsTaskFor J 0 budget cut t) where
  pub tried_out_by : (log : Log) (text : List ℕ) (status : Status) → IsProved 0 t.budget t.cut t.instance log
      → text ≡ proved_text seed size (gain_of t.instance log.plan.items) → status ≡ Done → Tries seed size budget cut text status
  tried_out_by log text status proved written done =
      let of_budget : IsProved 0 budget t.cut t.instance log = subst (λ (b : ℕ). IsProved 0 b t.cut t.instance log) asked.budget_is proved in
      let of_cut : IsProved 0 budget cut t.instance log = subst (λ (x : Option ℕ). IsProved 0 budget x t.instance log) asked.cut_is of_budget in
      tried_out seed size budget cut t.instance log text status (asked.instance ∙ is) of_cut written done
