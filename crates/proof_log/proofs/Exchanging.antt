-- One side, strip by strip: what a feasible order begins with is exchanged for a label that stands, as far as the side goes.
use Rattle.std.proofs.Common.{◌≡◌, ◌≢◌, ℕ, ◌+◌, ◌≤◌, ◌⊎◌, List, [], ◌∷◌, ◌++◌, refl, sym, ap, subst, inl, inr, append_assoc, arith}
use Rattle.std.specs.Prelude.{⊤}
use Rattle.std.proofs.lemmas.Bool.{cases_lt}
use Rattle.proof_log.proofs.Settling.{IsSettled, settle}
use Rattle.proof_log.specs.Labels.{IsListed, path_at, Stands}
use Rattle.proof_log.specs.Rules.{IsProof}
use Rattle.proof_log.specs.declared.log.Log.{Log}
use Rattle.strip_model.proofs.InTime.{IsInTime-front}
use Rattle.strip_model.proofs.Orders.{IsFeasibleOrder}
use Rattle.strip_model.proofs.Starts.{place_after_push}
use Rattle.strip_model.proofs.TakingOver.{TakesOver}
use Rattle.strip_model.proofs.Twins.{KeepsTwinsTogether-direction}
use Rattle.strip_model.proofs.Words.{has_left}
use Rattle.strip_model.specs.Directed.{strip_of}
use Rattle.strip_model.specs.Gain.{gain_in}
use Rattle.strip_model.specs.IsInstance.{IsInstance}
use Rattle.strip_model.specs.LabelPath.{LabelPath}
use Rattle.strip_model.specs.Orbit.{Orbit, duration_at}
use Rattle.strip_model.specs.Side.{Face, facing, face_of, IsWithinCap}
use Rattle.strip_model.specs.Starts.{Place, Root, After, arrive, place_after}
use Rattle.strip_model.specs.Twins.{HasTwinsOneWay}
use Rattle.strip_model.specs.declared.end.End.{End}
use Rattle.strip_model.specs.declared.end.End.TheVariants.{Forward, Backward}

-- where a path comes to with one more directed strip
abbrev pub next_place : Orbit → List ℕ → ℕ → Place
next_place J path y = After (arrive J (place_after J Root path) y) y

-- The side goes no further: what is left is nothing, or its first, directly after the path, is past the cap.
abbrev pub IsStopped : Face → List ℕ → List ℕ → Type 0
IsStopped S path [] = ⊤
IsStopped S path (y ∷ left) = IsWithinCap S.end S (next_place S.instance path y) → ⊥

-- What one side makes of `todo` and what stands behind it: a path that stands in the log, in place of what is done, and what is
-- left of `todo`, where the side goes no further. With what stands behind it is a feasible order that gains at least so much.
pub record Reduced (I : Orbit) (log : Log) (e : End) (todo behind : List ℕ) (least : ℕ) : Type 0 where
  pub path : List ℕ
  pub stands : Stands log e path
  pub done : List ℕ
  pub left : List ℕ
  pub split : todo ≡ done ++ left
  pub kept : TakesOver (facing I e) path (left ++ behind) least
  pub stopped : IsStopped (face_of I log.cut e) path left

-- a place is within the cap or not
cap_cases : (e : End) (S : Face) (q : Place) → IsWithinCap e S q ⊎ (IsWithinCap e S q → ⊥)
cap_cases e S Root = inl tt
cap_cases Forward S (After s x) = elim (cases_lt S.cut s) [ inl past ↦ inr (λ within. omega arith) | inr within ↦ inl within ]
cap_cases Backward S (After s x) =
    elim (cases_lt (s + duration_at S.instance x + S.cut) S.horizon) [ inl within ↦ inl within | inr past ↦ inr (λ within. omega arith) ]

not_empty : (path : List ℕ) (y : ℕ) → path ++ y ∷ [] ≢ []
not_empty [] y e = cc
not_empty (x ∷ path) y e = cc

-- the twins at the beginning of a feasible order have one direction
HasTwinsOneWay-front : (J : Orbit) (front c : List ℕ) → IsFeasibleOrder J (front ++ c) → HasTwinsOneWay J front
HasTwinsOneWay-front J front c order x y x_there y_there twin =
    KeepsTwinsTogether-direction J (front ++ c) order.in_time.distinct order.twins x (strip_of y) (has_left x front c x_there) twin
    y (has_left y front c y_there) refl

-- a path with the next directed strip of a feasible order is a label path, if the side goes that far
LabelPath-next : (S : Face) (path c : List ℕ) (y : ℕ) → IsFeasibleOrder S.instance (path ++ y ∷ [] ++ c)
    → IsWithinCap S.end S (next_place S.instance path y) → LabelPath S (path ++ y ∷ [])
LabelPath-next S path c y order within = record {
  some = not_empty path y;
  in_time = IsInTime-front S.instance (path ++ y ∷ []) c order.in_time;
  one_way = HasTwinsOneWay-front S.instance (path ++ y ∷ []) c order;
  cap = subst (λ (q : Place). IsWithinCap S.end S q) (sym (place_after_push S.instance Root path y)) within;
}

module _ (I : Orbit) (log : Log) (proof : IsProof I log) (e : End) (inst : IsInstance (facing I e)) (behind : List ℕ) (least : ℕ) where
  -- a listed path is settled by all marks
  settle_listed : (path rest : List ℕ) → IsListed log e path → TakesOver (facing I e) path rest least → IsSettled I log e rest least
  settle_listed path rest listed kept =
      let at : TakesOver (facing I e) (path_at log e listed.0) rest least =
      subst (λ (p : List ℕ). TakesOver (facing I e) p rest least) (sym listed.2) kept in
      settle I log proof e inst rest least log.marks.items [] refl listed.0 refl (listed.1, at)

  -- the next directed strip is done
  Reduced-more : (y : ℕ) (todo : List ℕ) → Reduced I log e todo behind least → Reduced I log e (y ∷ todo) behind least
  Reduced-more y todo r = record {
    path = r.path;
    stands = r.stands;
    done = y ∷ r.done;
    left = r.left;
    split = ap (λ (xs : List ℕ). y ∷ xs) r.split;
    kept = r.kept;
    stopped = r.stopped;
  }

  -- The exchange on one side, directed strip by directed strip: either the cap stops the next one, or the path with it is
  -- listed, and so it is settled; then the exchange goes on from the path that stands.
  pub exchange : (todo path : List ℕ) → Stands log e path → TakesOver (facing I e) path (todo ++ behind) least
      → (least ≤ log.gain) ⊎ Reduced I log e todo behind least
  exchange [] path stands kept =
      inr (record { path = path; stands = stands; done = []; left = []; split = refl; kept = kept; stopped = tt })
  exchange (y ∷ todo) path stands kept =
      let S = face_of I log.cut e in
      elim (cap_cases e S (next_place S.instance path y)) [
        | inr stopped ↦
            inr (record { path = path; stands = stands; done = []; left = y ∷ todo; split = refl; kept = kept; stopped = stopped })
        | inl within ↦
            let longer : TakesOver (facing I e) (path ++ y ∷ []) (todo ++ behind) least = record {
              feasible = subst (λ (xs : List ℕ). IsFeasibleOrder (facing I e) xs) (sym (append_assoc path (y ∷ []) (todo ++ behind))) kept.feasible;
              gains = subst (λ (xs : List ℕ). least ≤ gain_in (facing I e) xs) (sym (append_assoc path (y ∷ []) (todo ++ behind))) kept.gains;
            } in
            let listed = proof.extended e path y stands (LabelPath-next S path (todo ++ behind) y longer.feasible within) in
            elim (settle_listed (path ++ y ∷ []) (todo ++ behind) listed longer) [
              | inl bounded ↦ inl bounded
              | inr found ↦ elim (exchange todo found.0 found.1 found.2) [ inl bounded ↦ inl bounded | inr r ↦ inr (Reduced-more y todo r) ]
            ]
      ]
