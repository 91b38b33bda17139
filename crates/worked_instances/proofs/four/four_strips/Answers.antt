-- The strips keep the limits, and none is a twin.
use Rattle.std.proofs.Common.{◌≤◌, zero, suc, List, [], ◌∷◌, refl, sym, subst, arith, lit≤, lit<}
use Rattle.std.specs.Prelude.{nat_le}
use Rattle.std.proofs.lemmas.Bool.Decides.{nat_tests}
use Rattle.std.proofs.lemmas.List.Elements.{All-from_recursion}
use Rattle.std.proofs.lemmas.List.Sums.{AllPass-from_list_all}
use Rattle.strip_model.specs.IsInstance.{IsWindow, IsStrip, IsWithinLimits, KeepsTwins}
use Rattle.strip_model.specs.declared.limits.TheConstants.{MAX_GAIN}
use Rattle.strip_model.specs.declared.request.Request.{Request}
use Rattle.strip_model.specs.declared.strip.Strip.{Strip}
use Rattle.worked_instances.specs.declared.four.TheConstants.{GREAT, PART, LAST, OTHER_PART, TIMES}
use Rattle.worked_instances.specs.declared.windows.TheConstants.{CLOSED, AT_0, AT_10, AT_20}
use Rattle.worked_instances.proofs.four.four_strips.Goals as goal

abbrev strips : List Strip
strips = GREAT ∷ PART ∷ LAST ∷ OTHER_PART ∷ []

abbrev requests : List Request
requests = record { gain = 2 } ∷ record { gain = 10 } ∷ record { gain = 1 } ∷ []

closed_within : IsWindow CLOSED
closed_within = record { takes_time = lit≤ tt; short = lit≤ tt; over = lit≤ tt }

at_0_within : IsWindow AT_0
at_0_within = record { takes_time = lit≤ tt; short = lit≤ tt; over = lit≤ tt }

at_10_within : IsWindow AT_10
at_10_within = record { takes_time = lit≤ tt; short = lit≤ tt; over = lit≤ tt }

at_20_within : IsWindow AT_20
at_20_within = record { takes_time = lit≤ tt; short = lit≤ tt; over = lit≤ tt }

within : IsWithinLimits requests strips
within = record {
  few_requests = lit≤ tt;
  gains = All-from_recursion (λ r. r.gain ≤ MAX_GAIN) requests (lit≤ tt, (lit≤ tt, (lit≤ tt, tt)));
  few_strips = lit≤ tt;
  each_strip = All-from_recursion (IsStrip 3) strips (
    record { request = lit< tt; some_area = lit≤ tt; small = lit≤ tt; windows = record { forth = at_0_within; back = closed_within } },
    (
      record { request = lit< tt; some_area = lit≤ tt; small = lit≤ tt; windows = record { forth = at_0_within; back = closed_within } },
      (
        record { request = lit< tt; some_area = lit≤ tt; small = lit≤ tt; windows = record { forth = at_10_within; back = closed_within } },
        (
          record { request = lit< tt; some_area = lit≤ tt; small = lit≤ tt; windows = record { forth = at_20_within; back = closed_within } },
          tt,
        ),
      ),
    ),
  );
}

twins_kept : KeepsTwins strips
twins_kept zero h = tt
twins_kept (suc zero) h = tt
twins_kept (suc (suc zero)) h = tt
twins_kept (suc (suc (suc zero))) h = tt
twins_kept (suc (suc (suc (suc i)))) h = absurd (omega arith)

pub new-requires-clause-limits : goal.new-requires-clause-limits
new-requires-clause-limits c =
    subst (λ (rs : List Request). IsWithinLimits rs c.in_ok-strips.strips.items) (sym c.in_ok-requests.ensures.items)
    (subst (λ (ss : List Strip). IsWithinLimits requests ss) (sym c.in_ok-strips.ensures.items) within)

pub new-requires-clause-twins : goal.new-requires-clause-twins
new-requires-clause-twins c = subst (λ (ss : List Strip). KeepsTwins ss) (sym c.in_ok-strips.ensures.items) twins_kept

-- no entry is above 2
pub new-requires-clause-entries : goal.new-requires-clause-entries
new-requires-clause-entries c k d h = grind (arith, nat_tests, AllPass-from_list_all (λ m. nat_le m 2) TIMES refl k d h)
