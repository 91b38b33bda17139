use Rattle.std.proofs.Common.{ap, sym, ◌∙◌, ℕ, ◌%◌}
use Rattle.bucket.specs.Buckets.{held_in}
use Rattle.bucket.specs.declared.limits.TheConstants.{BUCKETS}
use Rattle.label_list.specs.Labels.{path_of}
use Rattle.bucket.proofs.Insertions.{IsFront-cut, IsFront-of, IsKeptBucket-cut, starts-front}
use Rattle.bucket.proofs.Lasts.{last_of-place, place-of, strip-there}
use Rattle.bucket.proofs.bucket.Bucket.cut.Goals as goal

pub front_of-front-requires : goal.front_of-front-requires
front_of-front-requires c =
    rw c.side.ensures.value
    (strip-there c.self.inside.store.side (path_of (held_in c.self.inside.store) c.args.id) c.brief-brief.result.last c.brief-brief.ensures.path
    (last_of-place c.self.inside.store.side.instance (path_of (held_in c.self.inside.store) c.args.id) c.brief-brief.result.start
    c.brief-brief.result.last c.brief-brief.ensures.brief.at))

pub invariant_of-self : goal.invariant_of-self
invariant_of-self c =
    let ends = last_of-place c.self.inside.store.side.instance (path_of (held_in c.self.inside.store) c.args.id) c.brief-brief.result.start
    c.brief-brief.result.last c.brief-brief.ensures.brief.at in
    let place = place-of c.brief-brief.result.last c.front_of-front.result c.self.inside.store.number c.front_of-front.ensures.value
    (ap (λ (x : ℕ). x % BUCKETS) (sym ends) ∙ c.brief-brief.ensures.here) in
    let front = IsFront-of c.self.inside.store c.self.inside.fronts.items c.front_of-front.result c.brief-brief.result.last c.index_mut.result.now
    c.self.invariant c.front_of-front.ensures.small place c.index_mut.ensures.value in
    IsKeptBucket-cut c.self.inside.store c.cut-answer.new.self c.args.id c.args.value c.front_of-front.result c.brief-brief.result.last
    c.self.inside.fronts.items c.remove.new.self c.in-Done.ensures ends place c.front_of-front.ensures.small c.self.invariant
    (IsFront-cut c.self.inside.store.side (held_in c.self.inside.store) c.brief-brief.result.last c.args.id c.index_mut.result.now.members
    c.remove.new.self.members front
    (c.remove.ensures.out front.antichain.distinct
    (starts-front c.self.inside.store.side (held_in c.self.inside.store) c.brief-brief.result.last c.args.id c.brief-brief.result
    c.index_mut.result.now.members front c.brief-brief.ensures.brief))
    (c.remove.ensures.kept c.self.inside.store.side (λ k. path_of (held_in c.self.inside.store) k) front.antichain))
