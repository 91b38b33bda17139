use Rattle.pool.proofs.running.run_all.Goals as goal

pub returns : goal.returns
returns g c = record { last = c.search_by_rounds.new.pass; grows = c.search_by_rounds.ensures.grows; closed = c.close.ensures }
