-- The law of joins, both ways, and what joined halves gain.
use Rattle.std.proofs.Common.{◌≡◌, ℕ, ◌≤◌, true, false, List, [], ◌++◌, reverse, sym, ◌∙◌, ap, subst}
use Rattle.std.proofs.lemmas.List.{reverse-append, reverse-reverse}
use Rattle.joiner.proofs.Lasts.{IsLast-from, LeavesRoom-from_time, LeaveTime-fits}
use Rattle.joiner.proofs.Partners.{needs_met-joined, KeepsTwinsTogether-joined}
use Rattle.joiner.specs.Halves.{IsHalf, MayJoin}
use Rattle.strip_model.proofs.Completing.{completion_bounded}
use Rattle.strip_model.proofs.Meeting.{Fits-behind}
use Rattle.strip_model.proofs.Mirrored.{Mirrors-back, Mirrors-mirror_of, IsInstance-mirror_of, StripsExist-mirror}
use Rattle.strip_model.proofs.MirroredPlans.{IsFeasibleOrder-mirror, gain_in-mirror}
use Rattle.strip_model.proofs.Orders.{IsFeasibleOrder, Feasible-order, IsFeasibleOrder-earliest}
use Rattle.strip_model.proofs.Starts.{Fits-append, Fits-append_parts, gain_of-earliest}
use Rattle.strip_model.proofs.Words.{StripsExist-append, StripsExist-reverse, StripsDistinct-append, StripsDistinct-append_parts, StripsDistinct-reverse, has_strip-reverse}
use Rattle.strip_model.specs.Directed.{has_strip}
use Rattle.strip_model.specs.Gain.{gain_in}
use Rattle.strip_model.specs.Horizon.{horizon_of}
use Rattle.strip_model.specs.IsInstance.{IsInstance}
use Rattle.strip_model.specs.Join.{Joins, join_gain}
use Rattle.strip_model.specs.LabelPath.{LabelPath}
use Rattle.strip_model.specs.Mirror.{mirror_of}
use Rattle.strip_model.specs.Orbit.{Orbit}
use Rattle.strip_model.specs.Reach.{bound}
use Rattle.strip_model.specs.Side.{Face}
use Rattle.strip_model.specs.Starts.{Root, place_after}

pub IsHalf-path : (S : Face) (path : List ℕ) → LabelPath S path → IsHalf S.instance path
IsHalf-path S path h = record { in_time = h.in_time; one_way = h.one_way }

pub IsHalf-root : (J : Orbit) → IsHalf J []
IsHalf-root J = record {
  in_time = record { exist = tt; distinct = tt; fits = tt };
  one_way = λ x y hx hy twin. absurd (cc);
}

-- what joins keeps the law
pub MayJoin-joins : (J : Orbit) → IsInstance J → (f b : List ℕ) → IsHalf J f → IsHalf (mirror_of J) b → Joins J f b → MayJoin J f b
MayJoin-joins J inst f b hf hb h =
    let K = mirror_of J in
    let m = Mirrors-mirror_of J inst in
    let o = IsFeasibleOrder-earliest J (f ++ reverse b) h in
    let parts = StripsDistinct-append_parts f (reverse b) o.in_time.distinct in
    let apart : (i : ℕ) → has_strip i f ≡ true → has_strip i b ≡ false = λ i t. sym (has_strip-reverse i b) ∙ parts.2 i t in
    record {
      apart = apart;
      needs_met = needs_met-joined J K inst m.same_partner f b o apart;
      in_time = LeaveTime-fits J K m (place_after J Root f) b
          (StripsExist-mirror (horizon_of J) K J (Mirrors-back (horizon_of J) J K m) b hb.in_time.exist)
          (Fits-append_parts J Root f (reverse b) o.in_time.fits).1;
    }

-- what keeps the law joins
pub Joins-may : (J : Orbit) → IsInstance J → (f b : List ℕ) → IsHalf J f → IsHalf (mirror_of J) b → MayJoin J f b → Joins J f b
Joins-may J inst f b hf hb may =
    let K = mirror_of J in
    let M = horizon_of J in
    let m = Mirrors-mirror_of J inst in
    let q = place_after J Root f in
    let exist = StripsExist-mirror M K J (Mirrors-back M J K m) b hb.in_time.exist in
    let last = IsLast-from K Root b tt hb.in_time.exist hb.in_time.fits in
    let room = LeavesRoom-from_time J K m q (place_after K Root b) last may.in_time in
    Feasible-order J (f ++ reverse b) (record {
      in_time = record {
        exist = StripsExist-append J f (reverse b) hf.in_time.exist (StripsExist-reverse J b exist);
        distinct = StripsDistinct-append f (reverse b) hf.in_time.distinct (StripsDistinct-reverse b hb.in_time.distinct)
            (λ i t. has_strip-reverse i b ∙ may.apart i t);
        fits = Fits-append J Root f (reverse b) hf.in_time.fits (Fits-behind M J K m q b exist hb.in_time.fits room);
      };
      twins = KeepsTwinsTogether-joined J K inst m.same_partner f b hf.one_way hb.one_way may.needs_met;
    })

-- a join gains at most the bound of its forward half
pub join_gain-forward : (J : Orbit) → IsInstance J → (f b : List ℕ) → Joins J f b → join_gain J f b ≤ bound J f
join_gain-forward J inst f b h =
    let P : ℕ → Type 0 = λ n. n ≤ bound J f in
    subst P (sym (gain_of-earliest J (f ++ reverse b)))
    (completion_bounded J inst f (reverse b) (IsFeasibleOrder-earliest J (f ++ reverse b) h))

-- and at most that of its backward half
pub join_gain-backward : (J : Orbit) → IsInstance J → (f b : List ℕ) → Joins J f b → join_gain J f b ≤ bound (mirror_of J) b
join_gain-backward J inst f b h =
    let K = mirror_of J in
    let m = Mirrors-mirror_of J inst in
    let xs = f ++ reverse b in
    let turned : reverse xs ≡ b ++ reverse f = reverse-append f (reverse b) ∙ ap (λ (ys : List ℕ). ys ++ reverse f) (reverse-reverse b) in
    let order = IsFeasibleOrder-mirror (horizon_of J) J K m xs (IsFeasibleOrder-earliest J xs h) in
    let P : ℕ → Type 0 = λ n. n ≤ bound K b in
    let gain : gain_in K (b ++ reverse f) ≡ join_gain J f b =
    ap (λ (ys : List ℕ). gain_in K ys) (sym turned) ∙ gain_in-mirror (horizon_of J) J K m xs ∙ sym (gain_of-earliest J xs) in
    subst P gain (completion_bounded K (IsInstance-mirror_of J inst) b (reverse f)
    (subst (λ (ys : List ℕ). IsFeasibleOrder K ys) turned order))
