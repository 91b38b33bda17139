-- What a label's last acquisition keeps.
use Rattle.std.proofs.Common.{◌≡◌, ℕ, ◌+◌, ◌<◌, ◌≤◌, List, length, true, sym, ◌∙◌, ap, ap₂, subst, arith}
use Rattle.std.proofs.lemmas.Bool.{and_parts}
use Rattle.joiner.proofs.Lasts.{IsLast, IsLast-from}
use Rattle.joiner.proofs.Halving.{IsHalf-path}
use Rattle.joiner.specs.LabelJoins.{IsLabelAt, IsForwardFace}
use Rattle.joiner.specs.Tips.{IsTipOf, waits_for}
use Rattle.joiner.specs.declared.tip.Tip.{Tip}
use Rattle.label.proofs.Members.{has_strip-same}
use Rattle.label.specs.Labels.{IsLabelOf}
use Rattle.label.specs.declared.label.Label.{Label}
use Rattle.strip_model.proofs.Horizons.{horizon_of-late, horizon_of-le}
use Rattle.strip_model.proofs.Mirrored.{Mirrors-mirror_of}
use Rattle.strip_model.proofs.Words.{StripsExist-at}
use Rattle.strip_model.specs.Directed.{strip_of, has, has_strip}
use Rattle.strip_model.specs.Horizon.{horizon_of}
use Rattle.strip_model.specs.IsInstance.{IsInstance}
use Rattle.strip_model.specs.Mirror.{mirror_of}
use Rattle.strip_model.specs.Orbit.{Orbit, early_at, late_at, duration_at}
use Rattle.strip_model.specs.Plan.{StripsExist}
use Rattle.strip_model.specs.Reach.{is_open, lacks_twin}
use Rattle.strip_model.specs.Side.{Face, face_of, facing, IsWithinCap}
use Rattle.strip_model.specs.Starts.{Place, Root, After, place_after}
use Rattle.strip_model.specs.declared.end.End.{End}
use Rattle.strip_model.specs.declared.end.End.TheVariants.{Forward, Backward}
use Rattle.strip_model.specs.declared.limits.TheConstants.{MAX_HORIZON}

-- a strip of what is seen from an end is a strip of the instance
pub exists_at : (J : Orbit) → IsInstance J → (e : End) (i : ℕ) → i < length (facing J e).strips → i < length J.strips
exists_at J inst Forward i l = l
exists_at J inst Backward i l = subst (λ (n : ℕ). i < n) (Mirrors-mirror_of J inst).same_size l

-- what starts within its window on either side is over by the horizon
over_at : (J : Orbit) → IsInstance J → (e : End) (s x : ℕ) → strip_of x < length J.strips → s ≤ late_at (facing J e) x
    → s + duration_at J x ≤ horizon_of J
over_at J inst Forward s x l h = sum s (late_at J x) (duration_at J x) (horizon_of J) h (horizon_of-late J x l)
  where
    sum : (s l d M : ℕ) → s ≤ l → l + d ≤ M → s + d ≤ M
    sum s l d M h k = omega arith
over_at J inst Backward s x l h =
    sum s (late_at (mirror_of J) x) (early_at J x) (duration_at J x) (horizon_of J) h ((Mirrors-mirror_of J inst).late_is x l)
  where
    sum : (s l e d M : ℕ) → s ≤ l → l + e + d ≡ M → s + d ≤ M
    sum s l e d M h k = omega arith

-- the label's last directed strip is of a strip, and its last acquisition can be over by the horizon
pub record EndsWithin (J : Orbit) (start last : ℕ) : Type 0 where
  pub exist : strip_of last < length J.strips
  pub over : start + duration_at J last ≤ horizon_of J

-- a sum that stays within the horizon is a number of its type
pub small : (J : Orbit) → IsInstance J → (start last s x d : ℕ) → EndsWithin J start last → s ≡ start → x ≡ last → d ≡ duration_at J x
    → s + d ≤ MAX_HORIZON
small J inst start last s x d ends is at lasts =
    sum start (duration_at J last) s d (horizon_of J) is (lasts ∙ ap (λ (y : ℕ). duration_at J y) at) ends.over (horizon_of-le J inst)
  where
    sum : (a b s d M : ℕ) → s ≡ a → d ≡ b → a + b ≤ M → M ≤ MAX_HORIZON → s + d ≤ MAX_HORIZON
    sum a b s d M e f h k = omega arith

pub EndsWithin-half : (J : Orbit) → IsInstance J → (e : End) (path : List ℕ) (start last : ℕ) → StripsExist (facing J e) path
    → IsLast (facing J e) (place_after (facing J e) Root path) → place_after (facing J e) Root path ≡ After start last → EndsWithin J start last
EndsWithin-half J inst e path start last exist h at =
    let end = subst (λ (p : Place). IsLast (facing J e) p) at h in
    let l = exists_at J inst e (strip_of last) end.0 in
    record { exist = l; over = over_at J inst e start last l end.1 }

pub EndsWithin-label : (J : Orbit) → IsInstance J → (e : End) (l : Label) → IsLabelAt J e l → EndsWithin J l.start l.last
EndsWithin-label J inst e l h =
    let in_time = h.1.path.in_time in
    EndsWithin-half J inst e l.path.items l.start l.last in_time.exist
    (IsLast-from (facing J e) Root l.path.items tt in_time.exist in_time.fits) h.1.at

-- the open directed strips of a label are of strips that exist
pub open_exist : (J : Orbit) → IsInstance J → (e : End) (l : Label) (lone : List ℕ) → lone ≡ l.lone → IsLabelAt J e l
    → (y : ℕ) → has y lone ≡ true → strip_of y < length J.strips
open_exist J inst e l lone is h y t =
    let stands = and_parts (has y l.path.items) (lacks_twin (facing J e) l.path.items y)
    (sym (h.1.lone y) ∙ ap (λ (xs : List ℕ). has y xs) (sym is) ∙ t) in
    exists_at J inst e (strip_of y) (StripsExist-at (facing J e) l.path.items y h.1.path.in_time.exist stands.0)

-- the tip of a label
pub IsTipOf-label : (J : Orbit) → IsInstance J → (e : End) (l : Label) (t : Tip) (duration : ℕ) (lone : List ℕ) → IsLabelAt J e l → t.last ≡ l.last
    → t.over ≡ l.start + duration → duration ≡ duration_at J l.last → ((i : ℕ) → has i t.strips ≡ has_strip i l.visited)
    → lone ≡ l.lone → (((y : ℕ) → has y lone ≡ is_open (facing J e) l.path.items y) → (z : ℕ) → has z t.twins ≡ waits_for J e l.path.items z)
    → IsTipOf J e l.path.items t
IsTipOf-label J inst e l t duration lone h last over lasts strips is twins =
    let S = face_of J h.0 e in
    let ends = EndsWithin-label J inst e l h in
    record {
      half = IsHalf-path S l.path.items h.1.path;
      start = l.start;
      at = h.1.at ∙ ap (λ (x : ℕ). After l.start x) (sym last);
      within = record {
        exist = subst (λ (x : ℕ). strip_of x < length J.strips) (sym last) ends.exist;
        over = rw (over, lasts) ends.over;
      };
      over = over ∙ ap (λ (d : ℕ). l.start + d) (lasts ∙ ap (λ (x : ℕ). duration_at J x) (sym last));
      strips = λ i. strips i ∙ has_strip-same l.visited l.path.items h.1.visited i;
      twins = twins (λ y. ap (λ (xs : List ℕ). has y xs) is ∙ h.1.lone y);
    }

-- a label of a forward side is one of the instance, whatever the cut
pub IsLabelAt-side : (S : Face) (J : Orbit) (l : Label) → J ≡ S.instance → IsForwardFace S → IsLabelOf S l → IsLabelAt J Forward l
IsLabelAt-side S J l same front h =
    let is : S ≡ face_of S.instance S.cut Forward =
    ap₂ (λ (e : End) (n : ℕ). record { instance = S.instance; end = e; cut = S.cut; horizon = n }) front.end front.horizon in
    (S.cut, subst (λ (H : Orbit). IsLabelOf (face_of H S.cut Forward) l) (sym same) (subst (λ (T : Face). IsLabelOf T l) is h))

-- a label of the forward side with some cut is one of the side with a cut that no label passes
pub IsLabelOf-wide : (J : Orbit) (cut : ℕ) (l : Label) → IsInstance J → IsLabelAt J Forward l → MAX_HORIZON ≤ cut → IsLabelOf (face_of J cut Forward) l
IsLabelOf-wide J cut l inst h wide =
    let path = h.1.path in
    let within : l.start ≤ cut = below l.start (duration_at J l.last) (horizon_of J) cut (EndsWithin-label J inst Forward l h).over (horizon_of-le J inst) wide in
    let S = face_of J cut Forward in
    let cap : IsWithinCap Forward S (After l.start l.last) = within in
    record {
      side = h.1.side;
      path = record {
        some = path.some;
        in_time = path.in_time;
        one_way = path.one_way;
        cap = subst (λ (p : Place). IsWithinCap Forward S p) (sym h.1.at) cap;
      };
      at = h.1.at;
      visited = h.1.visited;
      lone = h.1.lone;
    }
  where
    below : (s d M c : ℕ) → s + d ≤ M → M ≤ MAX_HORIZON → MAX_HORIZON ≤ c → s ≤ c
    below s d M c h k w = omega arith
