use Rattle.std.proofs.Common.{◌∙◌, Option, subst}
use Rattle.std.proofs.lemmas.Result.{on_ok_weaker}
use Rattle.admission.specs.Contests.{NamesIfLive}
use Rattle.bucket.specs.declared.id.Id.{Id}
use Rattle.closer.proofs.JoinedWaits.{WaitsIfLive-joined, WaitsIfLive-none}
use Rattle.closer.proofs.growing.wait_for.Goals as goal

pub returns-in-None : goal.returns-in-None
returns-in-None c = λ s new named.
    WaitsIfLive-none s new c.args.rank c.args.queue.now (subst (λ (o : Option Id). NamesIfLive s new o) c.in-None.is named)

pub returns-in-Some : goal.returns-in-Some
returns-in-Some c =
    on_ok_weaker c.push.result
    (λ joins s new named.
    WaitsIfLive-joined s new c.args.rank c.label.result c.args.queue.now c.push.new.self
    (c.label.ensures.id ∙ (subst (λ (o : Option Id). NamesIfLive s new o) c.in-Some.is named).0) c.label.ensures.rank joins)
    c.push.ensures
