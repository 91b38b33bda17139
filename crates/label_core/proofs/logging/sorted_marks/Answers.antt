use Rattle.std.proofs.Common.{rules, ◌<◌, ℕ, ◌+◌, [], ◌∷◌, ◌++◌, take, set, get_or, sym, ◌∙◌, ap, subst, arith}
use Rattle.bucket.specs.declared.limits.TheConstants.{BUCKETS}
use Rattle.label_core.proofs.LogParts.{bucket_small}
use Rattle.label_core.proofs.SortedMarks.{sorted_more, sorted_same, marked_there}
use Rattle.label_core.specs.CoreState.{marked_by, IsThere}
use Rattle.proof_log.specs.Labels.{same_end}
use Rattle.label_core.specs.SortedMarks.{AreSorted, lists_of}
use Rattle.label_core.proofs.logging.sorted_marks.Goals as goal
use Rattle.label_core.proofs.logging.sorted_marks.Goals.{then-is_same_end+in_ok-add_mark, else-is_same_end}

pub add_mark-requires : goal.add_mark-requires
add_mark-requires c =
    let small : c.marked_by-label.result.bucket < BUCKETS =
    bucket_small c.args.core.now c.labels.ensures.reached c.marked_by-label.result
    (subst (λ id. IsThere c.args.core.now.state id) (sym c.marked_by-label.ensures) (marked_there c.args.core.now.state c.note_at-note.result c.note_at-note.ensures.there)) in
    omega (arith, c.loop-k.invariant.size, small)

pub loop-k-preserved : goal.loop-k-preserved
loop-k-preserved c = elim c.if-is_same_end.branch [
  | then-is_same_end+in_ok-add_mark w ↦
      let more : AreSorted c.args.core.now.state c.args.end (take (c.loop-k.k + 1) c.args.core.now.state.notes) (lists_of w.add_mark.new.sorted.items) =
      sorted_more c.args.core.now.state c.args.end c.loop-k.k c.note_at-note.result (lists_of c.loop-k.sorted.items) (lists_of w.add_mark.new.sorted.items) c.loop-k.invariant
      (search rules) (c.note_at-note.ensures.value c.note_at-note.result)
      (ap (λ id. same_end id.end c.args.end) (sym c.marked_by-label.ensures) ∙ sym c.is_same_end.ensures ∙ w.if-is_same_end.true)
      (w.in_ok-add_mark.ensures
      ∙ ap (λ (b : ℕ). set (lists_of c.loop-k.sorted.items) b (get_or (lists_of c.loop-k.sorted.items) b [] ++ w.mark_of.result ∷ []))
      (ap (λ id. id.bucket) c.marked_by-label.ensures)
      ∙ ap (λ m. set (lists_of c.loop-k.sorted.items) (marked_by c.note_at-note.result).bucket
      (get_or (lists_of c.loop-k.sorted.items) (marked_by c.note_at-note.result).bucket [] ++ m ∷ [])) w.mark_of.ensures) in
      subst (λ v. AreSorted c.args.core.now.state c.args.end (take (c.loop-k.k + 1) c.args.core.now.state.notes) (lists_of v.items)) (sym w.sorted-is) more
  | else-is_same_end w ↦
      let same : AreSorted c.args.core.now.state c.args.end (take (c.loop-k.k + 1) c.args.core.now.state.notes) (lists_of c.loop-k.sorted.items) =
      sorted_same c.args.core.now.state c.args.end c.loop-k.k c.note_at-note.result (lists_of c.loop-k.sorted.items) c.loop-k.invariant
      (search rules) (c.note_at-note.ensures.value c.note_at-note.result)
      (ap (λ id. same_end id.end c.args.end) (sym c.marked_by-label.ensures) ∙ sym c.is_same_end.ensures ∙ w.if-is_same_end.false) in
      subst (λ v. AreSorted c.args.core.now.state c.args.end (take (c.loop-k.k + 1) c.args.core.now.state.notes) (lists_of v.items)) (sym w.sorted-is) same
]
