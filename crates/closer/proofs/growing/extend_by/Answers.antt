use Rattle.closer.proofs.growing.extend_by.Goals as goal

pub returns-clause-parent : goal.returns-clause-parent
returns-clause-parent c =
    c.in_ok-enter.ensures.parents c.args.now c.args.parent.now c.requires.extending.next.names c.requires.parent
