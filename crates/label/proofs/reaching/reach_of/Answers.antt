use Rattle.std.proofs.Common.{◌≡◌, ℕ, ◌&&◌, ◌||◌, ◌==◌, not, nat_lt, Bool, List, length, sym, ◌∙◌, ap, arith}
use Rattle.label.proofs.BriefPaths.{brief_last}
use Rattle.label.proofs.Deadlines.{reaches-deadline, with_new_strip, with_old_strip}
use Rattle.label.proofs.Members.{has_strip-same}
use Rattle.label.specs.Tables.{deadline_at}
use Rattle.strip_model.specs.Directed.{strip_of, has, has_strip}
use Rattle.strip_model.specs.Orbit.{Orbit}
use Rattle.strip_model.specs.declared.strip.Strip.{Strip}
use Rattle.label.proofs.reaching.reach_of.Goals as goal
use Rattle.label.proofs.reaching.reach_of.Goals.{then-not-contains, else-not-contains}

pub with_strip-reach-requires-clause-last : goal.with_strip-reach-requires-clause-last
with_strip-reach-requires-clause-last c = brief_last c.args.side.now c.args.brief.now c.requires

pub loop-strip-preserved : goal.loop-strip-preserved
loop-strip-preserved c = λ y.
    let b = c.args.brief.now in
    let n = c.loop-strip.strip in
    let in_time = nat_lt b.start (deadline_at c.args.side.now.instance b.last y) in
    let visited : ℕ → Bool = λ i. has_strip i b.visited in
    let stands = c.strips-visited.ensures.strips n in
    elim c.if-not-contains.branch [
      | then-not-contains w ↦
          ap (λ (xs : List ℕ). has y xs) w.reach-is
          ∙ w.with_strip-reach.ensures y
          ∙ ap (λ (b : Bool). b || ((strip_of y == n) && in_time)) (c.loop-strip.invariant y)
          ∙ with_new_strip (strip_of y) n visited in_time (sym stands ∙ sym w.if-not-contains.ensures.value)
      | else-not-contains w ↦
          ap (λ (xs : List ℕ). has y xs) w.reach-is
          ∙ c.loop-strip.invariant y
          ∙ with_old_strip (strip_of y) n visited in_time (sym stands ∙ sym w.if-not-contains.ensures.value)
    ]

pub returns : goal.returns
returns c = λ path h y.
    let b = c.args.brief.now in
    let J = c.args.side.now.instance in
    let in_time = nat_lt b.start (deadline_at J b.last y) in
    let all : c.loop-strip.strip ≡ length J.strips =
    let count = ap (λ (strips : List Strip). length strips) (c.strips.ensures.value ∙ ap (λ (K : Orbit). K.strips) c.instance.ensures.value) in
    omega (arith, c.loop-strip-test.false, c.loop-strip.auto.strip-end, count) in
    c.loop-strip.invariant y
    ∙ ap (λ (n : ℕ). nat_lt (strip_of y) n && (not (has_strip (strip_of y) b.visited) && in_time)) all
    ∙ ap (λ (v : Bool). nat_lt (strip_of y) (length J.strips) && (not v && in_time)) (has_strip-same b.visited path h.visited (strip_of y))
    ∙ sym (reaches-deadline J path b.start b.last h.at y)
