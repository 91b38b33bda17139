-- The rules on a list of twins are those on the strips.
use Rattle.std.proofs.Common.{◌≡◌, ℕ, zero, suc, ◌<◌, ◌≤◌, List, [], ◌∷◌, length, get_or, Option, Some, None, Result, Ok, Err, refl, sym, subst, ◌∙◌, arith}
use Rattle.std.specs.Prelude.{All, IfSome, OnOk}
use Rattle.std.proofs.lemmas.List.{length-map}
use Rattle.stereo_twins.specs.Refusal.{IsCause, KeepsRules}
use Rattle.stereo_twins.specs.Twins.{twin, TwinsExist, IsSound, AreOfOneRequest}
use Rattle.stereo_twins.specs.declared.twin_refusal.TwinRefusal.{TwinRefusal}
use Rattle.stereo_twins.specs.declared.twin_refusal.TwinRefusal.TheVariants.{SelfTwin, OtherRequest, NotMutual, Memory}
use Rattle.strip_model.specs.IsInstance.{IsInstance, KeepsTwins, IsTwinOf}
use Rattle.strip_model.specs.Orbit.{Orbit, no_strip, strip_in}
use Rattle.strip_model.specs.Twins.{twins_in, requests_in, twins_of}
use Rattle.strip_model.specs.declared.strip.Strip.{Strip}
use Rattle.strip_set.specs.declared.strip_set.TheConstants.{MAX_STRIPS}

-- the twin that the list has for a strip is the strip's; past the end both have none
pub twin-twins_in : (ss : List Strip) (i : ℕ) → twin (twins_in ss) i ≡ (strip_in ss i).twin
twin-twins_in [] i = refl
twin-twins_in (s ∷ ss) zero = refl
twin-twins_in (s ∷ ss) (suc i) = twin-twins_in ss i

-- the request that the list has for a strip is the strip's
pub get_or-requests_in : (ss : List Strip) (i : ℕ) → get_or (requests_in ss) i 0 ≡ (strip_in ss i).request
get_or-requests_in [] i = refl
get_or-requests_in (s ∷ ss) zero = refl
get_or-requests_in (s ∷ ss) (suc i) = get_or-requests_in ss i

-- a strip that has a twin exists
pub strip-from_twin : (ss : List Strip) (i j : ℕ) → (strip_in ss i).twin ≡ Some j → i < length ss
strip-from_twin [] i j h = absurd cc
strip-from_twin (s ∷ ss) zero j h = omega arith
strip-from_twin (s ∷ ss) (suc i) j h = let lt : i < length ss = strip-from_twin ss i j h in omega arith

some_below : (n : ℕ) (o : Option ℕ) (j : ℕ) → o ≡ Some j → IfSome o (λ i. i < n) → j < n
some_below n o j e h = let f : Option ℕ → Type 0 = λ o. IfSome o (λ i. i < n) in subst f e h

-- twins that are strips are so in the list
pub TwinsExist-twins_in : (ss : List Strip) → All (λ s. IfSome s.twin (λ i. i < length ss)) ss → TwinsExist (twins_in ss)
TwinsExist-twins_in ss exist i j h =
    let own : (strip_in ss i).twin ≡ Some j = sym (twin-twins_in ss i) ∙ h in
    let lt : j < length ss = some_below (length ss) (strip_in ss i).twin j own (exist i no_strip (strip-from_twin ss i j own)) in
    rw (length-map ss (λ (s : Strip). s.twin)) lt

each_twin : (ss : List Strip) (i : ℕ) (o : Option ℕ) → o ≡ (strip_in ss i).twin → IsSound (twins_in ss) → AreOfOneRequest (twins_in ss) (requests_in ss)
    → IfSome o (IsTwinOf ss i)
each_twin ss i None e sound one = tt
each_twin ss i (Some j) e sound one =
    let own : twin (twins_in ss) i ≡ Some j = twin-twins_in ss i ∙ sym e in
    record {
      there = omega (arith, sound.exist i j own, length-map ss (λ (s : Strip). s.twin));
      other = sound.differ i j own;
      in_turn = sym (twin-twins_in ss j) ∙ sound.returns i j own;
      same_request = sym (get_or-requests_in ss j) ∙ one i j own ∙ get_or-requests_in ss i;
    }

-- strips whose list of twins is taken keep the twin rule
pub KeepsTwins-from_lists : (ss : List Strip) → IsSound (twins_in ss) → AreOfOneRequest (twins_in ss) (requests_in ss) → KeepsTwins ss
KeepsTwins-from_lists ss sound one i lt = each_twin ss i (strip_in ss i).twin refl sound one

-- strips keep the twin rule where their lists made a map of twins
pub KeepsTwins-if_made : {T E : Type 0} (r : Result T E) (ss : List Strip) (ts : List (Option ℕ)) (rs : List ℕ) → ts ≡ twins_in ss → rs ≡ requests_in ss
    → OnOk r (IsSound ts) → OnOk r (AreOfOneRequest ts rs) → OnOk r (KeepsTwins ss)
KeepsTwins-if_made (Ok made) ss ts rs twins requests sound one =
    KeepsTwins-from_lists ss (subst (λ (ts : List (Option ℕ)). IsSound ts) twins sound)
    (subst (λ (rs : List ℕ). AreOfOneRequest (twins_in ss) rs) requests (subst (λ (ts : List (Option ℕ)). AreOfOneRequest ts rs) twins one))
KeepsTwins-if_made (Err e) ss ts rs twins requests sound one = tt

-- the twin that the list has for a strip of these is its twin
pub IsTwinOf-twins_in : (ss : List Strip) (i j : ℕ) → KeepsTwins ss → twin (twins_in ss) i ≡ Some j → IsTwinOf ss i j
IsTwinOf-twins_in ss i j keeps h =
    let own : (strip_in ss i).twin ≡ Some j = sym (twin-twins_in ss i) ∙ h in
    subst (λ (o : Option ℕ). IfSome o (IsTwinOf ss i)) own (keeps i (strip-from_twin ss i j own))

-- strips that keep the twin rule have a list of twins that are strips
pub TwinsExist-from_KeepsTwins : (ss : List Strip) → KeepsTwins ss → TwinsExist (twins_in ss)
TwinsExist-from_KeepsTwins ss keeps i j h = rw (length-map ss (λ (s : Strip). s.twin)) (IsTwinOf-twins_in ss i j keeps h).there

-- their lists keep the rules at each strip
pub KeepsRules-twins_in : (ss : List Strip) → KeepsTwins ss → (i : ℕ) → KeepsRules (twins_in ss) (requests_in ss) i
KeepsRules-twins_in ss keeps i = record {
  differs = λ j h. (IsTwinOf-twins_in ss i j keeps h).other;
  one_request = λ j h. get_or-requests_in ss j ∙ (IsTwinOf-twins_in ss i j keeps h).same_request ∙ sym (get_or-requests_in ss i);
  returns = λ j h. twin-twins_in ss j ∙ (IsTwinOf-twins_in ss i j keeps h).in_turn;
}

-- their list is one that a map of twins is made of
pub IsSound-twins_in : (ss : List Strip) → KeepsTwins ss → length ss ≤ MAX_STRIPS → IsSound (twins_in ss)
IsSound-twins_in ss keeps few = record {
  few = omega (arith, few, length-map ss (λ (s : Strip). s.twin));
  exist = TwinsExist-from_KeepsTwins ss keeps;
  returns = λ i j h. (KeepsRules-twins_in ss keeps i).returns j h;
  differ = λ i j h. (KeepsRules-twins_in ss keeps i).differs j h;
}

-- their twins are of one request
pub AreOfOneRequest-twins_in : (ss : List Strip) → KeepsTwins ss → AreOfOneRequest (twins_in ss) (requests_in ss)
AreOfOneRequest-twins_in ss keeps i j h = (KeepsRules-twins_in ss keeps i).one_request j h

-- and a map of them is refused for want of memory alone
pub refused-twins_in : (ss : List Strip) (refusal : TwinRefusal) → KeepsTwins ss → IsCause (twins_in ss) (requests_in ss) refusal → refusal ≡ Memory
refused-twins_in ss (SelfTwin i) keeps cause = absurd ((KeepsRules-twins_in ss keeps i).differs i cause.1 refl)
refused-twins_in ss (OtherRequest i) keeps cause = absurd (cause.1.3 ((KeepsRules-twins_in ss keeps i).one_request cause.1.0 cause.1.1))
refused-twins_in ss (NotMutual i) keeps cause = absurd (cause.1.4 ((KeepsRules-twins_in ss keeps i).returns cause.1.0 cause.1.1))
refused-twins_in ss Memory keeps cause = refl

-- the twins of an instance are strips
pub TwinsExist-twins_of : (J : Orbit) → IsInstance J → TwinsExist (twins_of J)
TwinsExist-twins_of J h = TwinsExist-from_KeepsTwins J.strips h.twins
