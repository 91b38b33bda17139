use Rattle.std.proofs.Common.{subst, arith, ◌≤◌, ℕ}
use Rattle.incumbent.proofs.Keeps.{splits}
use Rattle.incumbent.proofs.peak.Peak.split_seat.Goals as goal

pub split_seat-requires : goal.split_seat-requires
split_seat-requires g c =
    let r = c.requires in
    let one = c.args.self.now.one_word in
    let given : g.G.Given.worth ≤ c.args.seat.now.me.0.seen = subst (λ (n : ℕ). n ≤ c.args.seat.now.me.0.seen) r.given r.seen in
    (r.own, omega arith, splits _ _ _ given r.weight)
