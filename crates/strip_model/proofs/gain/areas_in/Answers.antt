use Rattle.std.proofs.Common.{◌≡◌, ℕ, map, get_or, replicate, List, inl, inr, arith}
use Rattle.std.proofs.lemmas.Bool.{cases_lt}
use Rattle.std.proofs.lemmas.List.{get_or-replicate, get_or_past, length-replicate}
use Rattle.strip_model.proofs.Gains.{area_in-le-whole_area, whole_area-le}
use Rattle.strip_model.specs.Orbit.{no_strip}
use Rattle.strip_model.specs.declared.limits.TheConstants.{MAX_REQUESTS}
use Rattle.strip_model.proofs.gain.areas_in.Goals as goal

abbrev zeros : ℕ → List ℕ
zeros n = replicate n 0

-- an array of zeros has 0 at each place, and past its end
nothing_yet : (n r : ℕ) → get_or (zeros n) r 0 ≡ 0
nothing_yet n r =
    elim (cases_lt r n) [
      | inl there ↦ get_or-replicate n r 0 0 there
      | inr past ↦ get_or_past (zeros n) r 0 (omega (arith, length-replicate {A = ℕ} n 0, past))
    ]

pub loop-item-init : goal.loop-item-init
loop-item-init g c = record { sum = λ r. omega (arith, nothing_yet MAX_REQUESTS r); all = length-replicate {A = ℕ} MAX_REQUESTS 0; exist = c.requires.exist }

pub add_area-requires-clause-room : goal.add_area-requires-clause-room
add_area-requires-clause-room g c =
    let J = c.args.instance.now in
    let r = (get_or c.strips-strips.result.now c.from.result no_strip).request in
    omega (
      arith,
      c.loop-item.invariant.sum r,
      area_in-le-whole_area J r (map g.X.AtDirected.directed c.args.sequence.now) c.requires.exist c.requires.distinct,
      whole_area-le J r c.strips-strips.ensures.sound,
    )

pub returns-clause-each : goal.returns-clause-each
returns-clause-each g c = omega (arith, c.loop-item.invariant.all, c.strips-strips.ensures.sound.limits.few_requests)
