use Rattle.std.proofs.Common.{rules, Bool, get_or, ltb, arith}
use Rattle.std.proofs.lemmas.Bool.{ltb-true, ltb-false}
use Rattle.std.proofs.lemmas.List.Sorted.{IsPartitionPoint-from_clause, IsPartitionedBy-ltb}
use Rattle.antichain.specs.declared.member.Member.{Member}
use Rattle.antichain.proofs.places.before.Goals as goal

pub returns-clause-front : goal.returns-clause-front
returns-clause-front c k d l =
    let p : Member → Bool = λ m. ltb m.outline.start c.args.start in
    let point = IsPartitionPoint-from_clause p c.args.members.now c.partition_point.result c.partition_point.ensures.partitioned
    (IsPartitionedBy-ltb (λ (m : Member). m.outline.start) c.args.members.now c.args.start c.requires) (λ a r f' called. search rules) in
    ltb-true (get_or c.args.members.now k d).outline.start c.args.start (point.0 k d (omega arith) l)

pub returns-clause-rest : goal.returns-clause-rest
returns-clause-rest c k d past l =
    let p : Member → Bool = λ m. ltb m.outline.start c.args.start in
    let point = IsPartitionPoint-from_clause p c.args.members.now c.partition_point.result c.partition_point.ensures.partitioned
    (IsPartitionedBy-ltb (λ (m : Member). m.outline.start) c.args.members.now c.args.start c.requires) (λ a r f' called. search rules) in
    ltb-false (get_or c.args.members.now k d).outline.start c.args.start (point.1 k d past l)
