-- Ranks of places, and last starts of labels.
use Rattle.std.proofs.Common.{◌≡◌, ◌≢◌, ℕ, ◌+◌, ◌<◌, ◌≤◌, max, true, List, [], ◌∷◌, ◌++◌, sym, ◌∙◌, ap, subst, arith, true≢false}
use Rattle.label_list.specs.Labels.{last_of}
use Rattle.closer.specs.Searching.{rank_of}
use Rattle.label.specs.Labels.{IsLabelOf}
use Rattle.label.specs.declared.label.Label.{Label}
use Rattle.label_core.proofs.Steps.{place_after-last}
use Rattle.admission.proofs.AntichainOrder.{has-last_of}
use Rattle.admission.specs.CarefulRuns.{IsEarlier}
use Rattle.strip_model.proofs.Extending.{MayExtend-last}
use Rattle.strip_model.proofs.Starts.{place_after_push}
use Rattle.strip_model.proofs.Words.{has_strip-from_has}
use Rattle.strip_model.specs.Directed.{strip_of, has_strip}
use Rattle.strip_model.specs.LabelPath.{LabelPath}
use Rattle.strip_model.specs.Orbit.{Orbit, early_at, duration_at, manoeuvre_at}
use Rattle.strip_model.specs.Side.{Face}
use Rattle.strip_model.specs.Starts.{Place, Root, After, arrive, place_after}

-- ---- ranks

-- an earlier place has a lesser rank
pub IsEarlier-rank : (p q : Place) → IsEarlier p q → rank_of p < rank_of q
IsEarlier-rank Root (After t y) h = omega arith
IsEarlier-rank (After s x) (After t y) h = omega (arith, h)
IsEarlier-rank Root Root h = elim h [ ]
IsEarlier-rank (After s x) Root h = elim h [ ]

-- what comes after a place starts no earlier than it
pub rank-arrive : (J : Orbit) (q : Place) (y : ℕ) → rank_of q ≤ arrive J q y + 1
rank-arrive J Root y = omega arith
rank-arrive J (After s x) y = later (early_at J y) s (duration_at J x) (manoeuvre_at J x y)
  where
    later : (early s x xy : ℕ) → s + 1 ≤ max early (s + x + xy) + 1
    later early s x xy = omega arith

-- ---- last starts

-- a label of a longer path starts when that path's last can
pub start-push : (S : Face) (l : Label) (parent : List ℕ) (y : ℕ) → IsLabelOf S l → l.path.items ≡ parent ++ y ∷ []
    → l.start ≡ arrive S.instance (place_after S.instance Root parent) y
start-push S l parent y h is =
    start_is l.start l.last (arrive S.instance (place_after S.instance Root parent) y) y
    (sym h.at ∙ ap (λ (p : List ℕ). place_after S.instance Root p) is ∙ place_after_push S.instance Root parent y)
  where
    start_is : (s x t z : ℕ) → After s x ≡ After t z → s ≡ t
    start_is s x t z e = cc

-- ---- the last of a path

-- a label's last is that of its path
pub label_last-is : (S : Face) (l : Label) → IsLabelOf S l → last_of l.path.items ≡ l.last
label_last-is S l h = place_after-last S.instance l.path.items l.start l.last h.at

pub last_of-push : (J : Orbit) (parent : List ℕ) (y : ℕ) → last_of (parent ++ y ∷ []) ≡ y
last_of-push J parent y =
    place_after-last J (parent ++ y ∷ []) (arrive J (place_after J Root parent) y) y (place_after_push J Root parent y)

-- what a label path extends doesn't end with the same directed strip
pub parent-ends_else : (S : Face) (parent : List ℕ) (y : ℕ) → LabelPath S (parent ++ y ∷ []) → parent ≢ [] → last_of parent ≡ last_of (parent ++ y ∷ []) → ⊥
parent-ends_else S parent y path some same =
    let is_y : last_of parent ≡ y = same ∙ last_of-push S.instance parent y in
    let there : has_strip (strip_of y) parent ≡ true =
    subst (λ (x : ℕ). has_strip (strip_of x) parent ≡ true) is_y (has_strip-from_has (last_of parent) parent (has-last_of parent some)) in
    true≢false (sym there ∙ (MayExtend-last S parent y path).new_strip)
