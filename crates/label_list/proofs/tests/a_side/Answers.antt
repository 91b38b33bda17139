-- The strip keeps the limits, and is no twin.
use Rattle.std.proofs.Common.{◌≤◌, zero, suc, List, [], ◌∷◌, sym, subst, arith, lit≤, lit<}
use Rattle.std.proofs.lemmas.List.Elements.{All-from_recursion}
use Rattle.strip_model.specs.IsInstance.{IsStrip, IsWithinLimits, KeepsTwins}
use Rattle.strip_model.specs.declared.limits.TheConstants.{MAX_GAIN}
use Rattle.strip_model.specs.declared.request.Request.{Request}
use Rattle.strip_model.specs.declared.strip.Strip.{Strip}
use Rattle.label_list.specs.declared.tests.TheConstants.{ONLY}
use Rattle.label_list.proofs.tests.a_side.Goals as goal

abbrev strips : List Strip
strips = ONLY ∷ []

abbrev requests : List Request
requests = record { gain = 2 } ∷ []

within : IsWithinLimits requests strips
within = record {
  few_requests = lit≤ tt;
  gains = All-from_recursion (λ r. r.gain ≤ MAX_GAIN) requests (lit≤ tt, tt);
  few_strips = lit≤ tt;
  each_strip = All-from_recursion (IsStrip 1) strips (
    record {
      request = lit< tt;
      some_area = lit≤ tt;
      small = lit≤ tt;
      windows = record {
        forth = record { takes_time = lit≤ tt; short = lit≤ tt; over = lit≤ tt };
        back = record { takes_time = lit≤ tt; short = lit≤ tt; over = lit≤ tt };
      };
    },
    tt,
  );
}

twins_kept : KeepsTwins strips
twins_kept zero h = tt
twins_kept (suc i) h = absurd (omega arith)

pub new-requires-clause-limits : goal.new-requires-clause-limits
new-requires-clause-limits c =
    subst (λ (rs : List Request). IsWithinLimits rs c.in_ok-strips.strips.items) (sym c.in_ok-requests.ensures.items)
    (subst (λ (ss : List Strip). IsWithinLimits requests ss) (sym c.in_ok-strips.ensures.items) within)

pub new-requires-clause-twins : goal.new-requires-clause-twins
new-requires-clause-twins c = subst (λ (ss : List Strip). KeepsTwins ss) (sym c.in_ok-strips.ensures.items) twins_kept
