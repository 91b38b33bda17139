-- The members of an antichain that can't gain more are cut.
use Rattle.std.proofs.Common.{◌≡◌, ℕ, ◌<◌, ◌≤◌, ◌%◌, true, List, [], length, sym, ◌∙◌, ap, subst, arith}
use Rattle.std.specs.List.{All}
use Rattle.admission.proofs.Marked.{IsAntichainAt-left}
use Rattle.admission.specs.Antichains.{id_at, IsAntichainAt}
use Rattle.admission.specs.Clearing.{AreCuttable, Clears}
use Rattle.antichain.proofs.Changes.{gone-tells, kept-tells}
use Rattle.antichain.proofs.Judgements.{pruned-tells}
use Rattle.antichain.proofs.Parts.{distinct-gone, has-gone, kept-are}
use Rattle.antichain.specs.Antichains.{ids_of, TakesOut}
use Rattle.antichain.specs.declared.member.Member.{Member}
use Rattle.bucket.specs.declared.limits.TheConstants.{BUCKETS}
use Rattle.label_core.specs.CoreState.{labels_in, path_of}
use Rattle.label_core.specs.Machine.{Machine}
use Rattle.strip_model.specs.Directed.{has}
use Rattle.strip_model.specs.Orbit.{Orbit}
use Rattle.strip_model.specs.Plan.{gain_of}
use Rattle.strip_model.specs.Reach.{bound}
use Rattle.strip_model.specs.Side.{facing, face_of}
use Rattle.strip_model.specs.declared.acquisition.Acquisition.{Acquisition}
use Rattle.strip_model.specs.declared.end.End.{End}

-- those whose bound is at most the gain were taken out
module _ (m : Machine) (e : End) (x n : ℕ) (old rest : List Member) (ids : List ℕ) (gain : ℕ) (h : IsAntichainAt m e x n old)
    (gain_is : gain ≡ gain_of m.instance m.state.incumbent)
    (out : TakesOut (λ (a : Member). a.outline.bound ≤ gain) (λ (a : Member). gain < a.outline.bound) old rest [] ids) where
  -- what no more can come of, by ids
  abbrev bound_at : ℕ → ℕ
  bound_at k = bound (facing m.instance e) (path_of m.state (id_at e x k))

  abbrev Told : Type 0
  Told = TakesOut (λ (a : Member). bound_at a.id ≤ gain) (λ (a : Member). gain < bound_at a.id) old rest [] ids

  told : Told
  told = pruned-tells (face_of m.instance m.cut e) (λ k. path_of m.state (id_at e x k)) gain old rest [] ids h.antichain.sound out

  was : (k : ℕ) → has k (ids_of told.gone) ≡ true → has k (ids_of old) ≡ true
  was k i = has-gone (λ (a : Member). bound_at a.id ≤ gain) (λ (a : Member). gain < bound_at a.id) k told.parted i

  pub AreCuttable-pruned : AreCuttable m e x ids
  AreCuttable-pruned =
      subst (λ (xs : List ℕ). AreCuttable m e x xs) (sym told.added)
      (record {
        distinct =
            distinct-gone (λ (a : Member). bound_at a.id ≤ gain) (λ (a : Member). gain < bound_at a.id) told.parted h.antichain.distinct;
        belong = λ k i. h.sound k (was k i);
        bounded = λ k i. omega (arith, gain_is, gone-tells (λ j. bound_at j ≤ gain) (λ j. gain < bound_at j) k told.parted i);
      })

  module _ (t : Machine) (clears : Clears m t e x ids (length ids)) where
    pub IsAntichainAt-pruned : IsAntichainAt t e x n rest
    IsAntichainAt-pruned =
        IsAntichainAt-left (λ (a : Member). bound_at a.id ≤ gain) (λ (a : Member). gain < bound_at a.id) m t e x n old told.gone rest told.parted
        (λ k i stays.
        omega (
          arith,
          gone-tells (λ j. bound_at j ≤ gain) (λ j. gain < bound_at j) k told.parted i,
          kept-tells (λ j. bound_at j ≤ gain) (λ j. gain < bound_at j) k told.parted stays,
        ))
        (subst (λ (xs : List ℕ). Clears m t e x xs (length xs)) told.added clears) h

    pub bounds-exceed : All (λ (a : Member). gain_of t.instance t.state.incumbent < a.outline.bound) rest
    bounds-exceed =
        let same : gain ≡ gain_of t.instance t.state.incumbent =
        gain_is ∙ ap (λ (I : Orbit). gain_of I m.state.incumbent) (sym clears.shrinks.fades.instance)
        ∙ ap (λ (p : List Acquisition). gain_of t.instance p) (sym clears.plan) in
        subst (λ (g : ℕ). All (λ (a : Member). g < a.outline.bound) rest) same
        (kept-are (λ (a : Member). a.outline.bound ≤ gain) (λ (a : Member). gain < a.outline.bound) out.parted)

-- as far as all labels of the bucket go
pub IsAntichainAt-whole : (m t : Machine) (e : End) (x : ℕ) (ids : List ℕ) (rest : List Member) → Clears m t e x ids (length ids)
    → IsAntichainAt t e x (length (labels_in m.state e (x % BUCKETS))) rest → IsAntichainAt t e x (length (labels_in t.state e (x % BUCKETS))) rest
IsAntichainAt-whole m t e x ids rest clears h =
    subst (λ (n : ℕ). IsAntichainAt t e x n rest) (sym (clears.shrinks.fades.len e (x % BUCKETS))) h
