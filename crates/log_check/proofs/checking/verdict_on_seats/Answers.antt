use Rattle.std.proofs.Common.{refl}
use Rattle.log_check.proofs.Keeping.{proof_from_keeps}
use Rattle.log_check.proofs.RulesInTurn.{one_more_kept, all_rules_kept}
use Rattle.log_check.specs.Faults.Rule.{AllAreExtended, NoneJoinForMore}
use Rattle.log_check.proofs.checking.verdict_on_seats.Goals as goal

pub returns-in-Some-2 : goal.returns-in-Some-2
returns-in-Some-2 c = (
  NoneJoinForMore,
  refl,
  record {
    at = rw c.in-Some-2.is at c.in_ok-at-in-None.ensures;
    earlier = one_more_kept c.args.seated.now.instance c.args.seated.now.log AllAreExtended 8 refl c.requires (rw c.in-None.is at c.in_ok-at.ensures);
  },
)

pub returns-in-None-2 : goal.returns-in-None-2
returns-in-None-2 c =
    let I = c.args.seated.now.instance in
    let log = c.args.seated.now.log in
    let seven = one_more_kept I log AllAreExtended 8 refl c.requires (rw c.in-None.is at c.in_ok-at.ensures) in
    let eight = one_more_kept I log NoneJoinForMore 9 refl seven (rw c.in-None-2.is at c.in_ok-at-in-None.ensures) in
    proof_from_keeps I log (all_rules_kept I log eight)
