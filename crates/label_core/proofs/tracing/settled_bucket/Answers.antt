use Rattle.std.proofs.Common.{◌∙◌}
use Rattle.label_core.proofs.Settling.{bucket_named, bucket_list, bucket_notes}
use Rattle.label_core.proofs.tracing.settled_bucket.Goals as goal

pub settle_entries-requires : goal.settle_entries-requires
settle_entries-requires c = record {
  named =
      bucket_named c.args.number c.args.bucket c.requires.number c.requires.sound c.into_parts-list.result.0 c.wait_all.new.list c.deref.result.now
      c.into_parts-list.ensures.list c.wait_all.ensures (c.deref.ensures.value ∙ c.into_parts-list.ensures.entries);
}

pub returns-clause-list : goal.returns-clause-list
returns-clause-list c =
    bucket_list c.args.number c.args.bucket c.requires.number c.requires.sound c.into_parts-list.result.0 c.wait_all.new.list c.deref.result.now
    c.into_parts-list.ensures.list c.wait_all.ensures (c.deref.ensures.value ∙ c.into_parts-list.ensures.entries)
    c.args.end c.args.gain c.args.notes.now.items c.settle_entries.new.list c.in_ok-settle_entries.ensures.list

pub returns-clause-notes : goal.returns-clause-notes
returns-clause-notes c =
    bucket_notes c.args.number c.args.bucket c.requires.number c.requires.sound c.into_parts-list.result.0 c.wait_all.new.list c.deref.result.now
    c.into_parts-list.ensures.list c.wait_all.ensures (c.deref.ensures.value ∙ c.into_parts-list.ensures.entries)
    c.args.end c.args.gain c.args.notes.now.items c.settle_entries.new.notes.items c.in_ok-settle_entries.ensures.notes
