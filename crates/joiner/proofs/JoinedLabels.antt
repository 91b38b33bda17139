-- The law of joins for labels, and the answer for two of them.
use Rattle.std.proofs.Common.{◌≡◌, ◌↔◌, ℕ, false, List, Option, None, Some, MatchOption, IsSome, IfSome, option_map, refl, sym, ◌∙◌, subst, inl, inr, true≢false}
use Rattle.std.proofs.lemmas.Bool.{cases_Bool, both_ways}
use Rattle.joiner.proofs.Partners.{Opens-from_open, open-from_Opens}
use Rattle.joiner.proofs.Tipping.{MayJoin-tips, Meets-tips, Meets-joins, Joins-meets, meet_gain-joins, needs-root}
use Rattle.joiner.specs.Halves.{LeaveTime, MayJoin}
use Rattle.joiner.specs.LabelJoins.{IsLabelAt, MeetsLaw, IsJoined}
use Rattle.joiner.specs.Tips.{IsWithin, IsTipAt, Meets, meet_gain}
use Rattle.joiner.specs.declared.tip.Tip.{Tip}
use Rattle.label.specs.Labels.{path_of}
use Rattle.label.specs.declared.label.Label.{Label}
use Rattle.strip_model.proofs.Needing.{Need-from_needs, needs-from_Need}
use Rattle.strip_model.specs.Directed.{has}
use Rattle.strip_model.specs.IsInstance.{IsInstance}
use Rattle.strip_model.specs.Mirror.{mirror_of}
use Rattle.strip_model.specs.Orbit.{Orbit}
use Rattle.strip_model.specs.Reach.{needs, is_open}
use Rattle.strip_model.specs.Starts.{Place, Root, After, place_after}
use Rattle.strip_model.specs.declared.end.End.{End}
use Rattle.strip_model.specs.declared.end.End.TheVariants.{Forward, Backward}

-- ---- the law by its cases

-- what has no needs has nothing open, and the other way
no_open : (J : Orbit) (path : List ℕ) → ((z : ℕ) → has z (needs J path) ≡ false) → (x : ℕ) → is_open J path x ≡ false
no_open J path none x =
    elim (cases_Bool (is_open J path x)) [
      | inl opens ↦
          let o = Opens-from_open J path x opens in
          absurd (both_ways (has o.mate (needs J path)) (none o.mate) (needs-from_Need J path o.mate x o.there o.is o.lacks))
      | inr closed ↦ closed
    ]

no_needs : (J : Orbit) (path : List ℕ) → ((x : ℕ) → is_open J path x ≡ false) → (z : ℕ) → has z (needs J path) ≡ false
no_needs J path none z =
    elim (cases_Bool (has z (needs J path))) [
      | inl needed ↦
          let need = Need-from_needs J path z needed in
          absurd (both_ways (is_open J path need.of) (none need.of) (open-from_Opens J path need.of z need.there need.is need.lacks))
      | inr none ↦ none
    ]

leave_second : (J : Orbit) (q : Place) → LeaveTime J q Root
leave_second J Root = tt
leave_second J (After s x) = tt

leave_first : (J : Orbit) (p : Place) → LeaveTime J Root p
leave_first J Root = tt
leave_first J (After t y) = tt

pub MayJoin-law : (J : Orbit) (f b : Option Label) → IfSome f (IsLabelAt J Forward) → IfSome b (IsLabelAt J Backward)
    → MeetsLaw J f b → MayJoin J (path_of f) (path_of b)
MayJoin-law J None None hf hb law = record { apart = λ i t. absurd (true≢false (sym t)); needs_met = λ z. needs-root J z; in_time = tt }
MayJoin-law J None (Some b) hf hb law = record {
  apart = λ i t. absurd (true≢false (sym t));
  needs_met = λ z. needs-root J z ∙ sym (law z);
  in_time = leave_first J (place_after (mirror_of J) Root b.path.items);
}
MayJoin-law J (Some f) None hf hb law = record {
  apart = λ i t. refl;
  needs_met = λ z. no_needs J f.path.items law z;
  in_time = leave_second J (place_after J Root f.path.items);
}
MayJoin-law J (Some f) (Some b) hf hb law = record {
  apart = law.apart;
  needs_met = law.needs_met;
  in_time = subst (λ (q : Place). LeaveTime J q (place_after (mirror_of J) Root b.path.items)) (sym hf.1.at)
      (subst (λ (p : Place). LeaveTime J (After f.start f.last) p) (sym hb.1.at) law.in_time);
}

pub law-MayJoin : (J : Orbit) (f b : Option Label) → IfSome f (IsLabelAt J Forward) → IfSome b (IsLabelAt J Backward)
    → MayJoin J (path_of f) (path_of b) → MeetsLaw J f b
law-MayJoin J None None hf hb may = tt
law-MayJoin J None (Some b) hf hb may = λ x. sym (may.needs_met x) ∙ needs-root J x
law-MayJoin J (Some f) None hf hb may = no_open J f.path.items may.needs_met
law-MayJoin J (Some f) (Some b) hf hb may = record {
  apart = may.apart;
  needs_met = may.needs_met;
  in_time = subst (λ (p : Place). LeaveTime J (After f.start f.last) p) hb.1.at
      (subst (λ (q : Place). LeaveTime J q (place_after (mirror_of J) Root b.path.items)) hf.1.at may.in_time);
}

-- ---- the answer

-- what a test of tips answers
abbrev pub IsMeeting : Orbit → Option Tip → Option Tip → Option ℕ → Type 0
IsMeeting J f b o = MatchOption o (¬ Meets J f b) (λ gain. Meets J f b × (gain ≡ meet_gain J f b))

pub IsJoined-meeting : (J : Orbit) → IsInstance J → (pf pb : List ℕ) (f b : Option Tip) → IsTipAt J Forward pf f → IsTipAt J Backward pb b
    → (o : Option ℕ) → IsMeeting J f b o → IsJoined J pf pb o
IsJoined-meeting J inst pf pb f b hf hb None h = λ joins. h (Meets-joins J inst pf pb f b hf hb joins)
IsJoined-meeting J inst pf pb f b hf hb (Some gain) h =
    let joins = Joins-meets J inst pf pb f b hf hb h.0 in
    (joins, h.1 ∙ meet_gain-joins J pf pb f b hf hb joins)

pub law-meeting : (J : Orbit) (f b : Option Label) → IfSome f (IsLabelAt J Forward) → IfSome b (IsLabelAt J Backward)
    → (s t : Option Tip) → IsTipAt J Forward (path_of f) s → IsTipAt J Backward (path_of b) t
    → (o : Option ℕ) → IsMeeting J s t o → IsSome o ↔ MeetsLaw J f b
law-meeting J f b hf hb s t hs ht None h = (
  λ some. absurd (true≢false (sym some)),
  λ law. absurd (h (Meets-tips J (path_of f) (path_of b) s t hs ht (MayJoin-law J f b hf hb law))),
)
law-meeting J f b hf hb s t hs ht (Some gain) h =
    (λ some. law-MayJoin J f b hf hb (MayJoin-tips J (path_of f) (path_of b) s t hs ht h.0), λ law. refl)

-- what holds of what is there holds of its value
pub IfSome-mapped : {X Y : Type 0} (f : X → Y) (P : Y → Type 0) (o : Option X) → IfSome o (λ x. P (f x)) → IfSome (option_map f o) P
IfSome-mapped f P None h = tt
IfSome-mapped f P (Some x) h = h

-- the tip of a label or root is within the orbit
pub IsWithin-tip : (J : Orbit) (e : End) (path : List ℕ) (o : Option Tip) → IsTipAt J e path o → IfSome o (IsWithin J)
IsWithin-tip J e path None h = tt
IsWithin-tip J e path (Some t) h = h.within
