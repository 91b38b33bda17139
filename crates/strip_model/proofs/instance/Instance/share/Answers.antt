use Rattle.std.proofs.Common.{◌≡◌, ◌*◌, ◌≤◌, ℕ, List, get_or, sym, ◌∙◌, ap, subst, arith}
use Rattle.gain_curve.specs.Curve.{phi}
use Rattle.strip_model.proofs.Gains.{share_at-at_most}
use Rattle.strip_model.proofs.Shares.{share_at-under_chord}
use Rattle.strip_model.specs.Gain.{whole_area, share_at}
use Rattle.strip_model.specs.IsInstance.{IsInstance}
use Rattle.strip_model.specs.Orbit.{Orbit, no_request, gain_at}
use Rattle.strip_model.specs.declared.limits.TheConstants.{MAX_TOTAL_GAIN}
use Rattle.strip_model.specs.declared.request.Request.{Request}
use Rattle.strip_model.proofs.instance.Instance.share.Goals as goal

-- what the code multiplies: the gain of request i of these requests, and the curve at a of this area
record AreFactors (J : Orbit) (r a gain share : ℕ) : Type 0 where
  gain_is : gain ≡ gain_at J r
  share_is : share ≡ phi a (whole_area J r)

factors : (J : Orbit) (requests : List Request) (r i a gain area share : ℕ) → requests ≡ J.requests → i ≡ r → gain ≡ (get_or requests i no_request).gain
    → area ≡ whole_area J r → share ≡ phi a area → AreFactors J r a gain share
factors J requests r i a gain area share same at gain_is area_is share_is = record {
  gain_is = gain_is ∙ ap (λ (qs : List Request). (get_or qs i no_request).gain) same ∙ ap (λ (k : ℕ). gain_at J k) at;
  share_is = share_is ∙ ap (λ (w : ℕ). phi a w) area_is;
}

-- their product is the share
product_is : (J : Orbit) (r a gain share : ℕ) → AreFactors J r a gain share → share_at J r a ≡ gain * share
product_is J r a gain share h = sym (ap (λ (g : ℕ). g * share) h.gain_is ∙ ap (λ (p : ℕ). gain_at J r * p) h.share_is)

-- and so within the greatest total
product_at_most : (J : Orbit) (r a gain share : ℕ) → AreFactors J r a gain share → IsInstance J → a ≤ whole_area J r → gain * share ≤ MAX_TOTAL_GAIN
product_at_most J r a gain share h inst within =
    subst (λ (v : ℕ). v ≤ MAX_TOTAL_GAIN) (product_is J r a gain share h) (share_at-at_most J r a inst within)

pub overflow_mul-result : goal.overflow_mul-result
overflow_mul-result c =
    let h = factors c.args.self.now c.requests.result.now c.args.request c.from.result c.args.area c.from-2.result c.area_of.result c.phi.result
    c.requests.ensures.value c.from.ensures c.from-2.ensures c.area_of.ensures.value c.phi.ensures.value in
    omega (arith, product_at_most c.args.self.now c.args.request c.args.area c.from-2.result c.phi.result h c.requests.ensures.sound c.requires.area)

pub returns-clause-under_chord : goal.returns-clause-under_chord
returns-clause-under_chord c =
    let J = c.args.self.now in
    let r = c.args.request in
    let h = factors J c.requests.result.now r c.from.result c.args.area c.from-2.result c.area_of.result c.phi.result
    c.requests.ensures.value c.from.ensures c.from-2.ensures c.area_of.ensures.value c.phi.ensures.value in
    subst (λ (v : ℕ). v ≤ 20 * gain_at J r * c.args.area) (product_is J r c.args.area c.from-2.result c.phi.result h)
    (share_at-under_chord J r c.args.area c.requires.area)

pub returns-clause-bound : goal.returns-clause-bound
returns-clause-bound c =
    let h = factors c.args.self.now c.requests.result.now c.args.request c.from.result c.args.area c.from-2.result c.area_of.result c.phi.result
    c.requests.ensures.value c.from.ensures c.from-2.ensures c.area_of.ensures.value c.phi.ensures.value in
    product_at_most c.args.self.now c.args.request c.args.area c.from-2.result c.phi.result h c.requests.ensures.sound c.requires.area
