use Rattle.std.proofs.Common.{◌≡◌, length, rules}
use Rattle.log_check.proofs.MarkTimes.{marked_label_there, TellSoFar-more}
use Rattle.log_check.proofs.times.times_at.Goals as goal

pub note-requires : goal.note-requires
note-requires c =
    marked_label_there c.args.log.now c.args.end c.mark_at.result c.marked_label-label.result _ c.loop-j.invariant.size
    (c.requires c.loop-j.j c.mark_at.result c.mark_at.ensures) c.marked_label-label.ensures

pub loop-j-preserved : goal.loop-j-preserved
loop-j-preserved c =
    let all : c.len-never.result ≡ length c.args.log.now.marks.items = search rules in
    TellSoFar-more c.args.log.now c.args.end c.loop-j.times.items c.note.new.times.items c.loop-j.j c.mark_at.result c.marked_label-label.result c.len-never.result
    c.loop-j.invariant all c.mark_at.ensures c.marked_label-label.ensures c.note.ensures.size c.note.ensures.each
