-- Made strips keep the twin rule.
use Rattle.std.proofs.Common.{◌≡◌, ◌≢◌, ℕ, ◌+◌, ◌-◌, ◌/◌, ◌%◌, ◌<◌, ◌≤◌, List, map, Some, None, refl, sym, ◌∙◌, ap, subst, ⊎_elim, arith}
use Rattle.std.specs.Option.{IfSome}
use Rattle.std.proofs.lemmas.Bool.{cases_lt, cases_eq, lt-ltb, le-ltb, ne_eqb}
use Rattle.std.proofs.lemmas.Option.{IfSome_then}
use Rattle.inst_maker.specs.Made.{twin_of}
use Rattle.inst_maker.specs.declared.placed.Placed.{Placed}
use Rattle.inst_maker.proofs.Strips.{AreMade, strip_in-made, length-strips}
use Rattle.strip_model.specs.IsInstance.{IsTwinOf, KeepsTwins}
use Rattle.strip_model.specs.Orbit.{no_strip}
use Rattle.strip_model.specs.declared.strip.Strip.{Strip}

-- the fourth strip of each four is the twin of the third
twin_of-fourth : (size i : ℕ) → i % 4 ≡ 3 → twin_of size i ≡ Some (i - 1)
unfolding twin_of
twin_of-fourth size i h = rw h refl

-- the third is the twin of the fourth, if there is one
twin_of-third : (size i : ℕ) → i % 4 ≡ 2 → i + 1 < size → twin_of size i ≡ Some (i + 1)
unfolding twin_of
twin_of-third size i h there = rw (h, lt-ltb (i + 1) size there) refl

-- no other strip has a twin
twin_of-last_third : (size i : ℕ) → i % 4 ≡ 2 → size ≤ i + 1 → twin_of size i ≡ None
unfolding twin_of
twin_of-last_third size i h end = rw (h, le-ltb (i + 1) size end) refl

twin_of-other : (size i : ℕ) → i % 4 ≢ 2 → i % 4 ≢ 3 → twin_of size i ≡ None
unfolding twin_of
twin_of-other size i not_third not_fourth = rw (ne_eqb (i % 4) 3 not_fourth, ne_eqb (i % 4) 2 not_third) refl

-- j is another strip among the first `size` of the same request, whose twin is i
record IsInTurn (size i j : ℕ) : Type 0 where
  there : j < size
  other : j ≢ i
  in_turn : twin_of size j ≡ Some i
  same_request : j / 4 ≡ i / 4

twin_of-mutual : (size i : ℕ) → i < size → IfSome (twin_of size i) (IsInTurn size i)
twin_of-mutual size i h =
    ⊎_elim
    (λ (fourth : i % 4 ≡ 3). subst (λ twin. IfSome twin (IsInTurn size i)) (sym (twin_of-fourth size i fourth)) (record {
      there = omega arith;
      other = omega arith;
      in_turn = twin_of-third size (i - 1) (omega arith) (omega arith) ∙ ap (λ (k : ℕ). Some k) (omega arith);
      same_request = omega arith;
    }))
    (λ not_fourth. ⊎_elim
    (λ (third : i % 4 ≡ 2). ⊎_elim
    (λ there. subst (λ twin. IfSome twin (IsInTurn size i)) (sym (twin_of-third size i third there)) (record {
      there = there;
      other = omega arith;
      in_turn = twin_of-fourth size (i + 1) (omega arith) ∙ ap (λ (k : ℕ). Some k) (omega arith);
      same_request = omega arith;
    }))
    (λ end. subst (λ twin. IfSome twin (IsInTurn size i)) (sym (twin_of-last_third size i third end)) tt)
    (cases_lt (i + 1) size))
    (λ not_third. subst (λ twin. IfSome twin (IsInTurn size i)) (sym (twin_of-other size i not_third not_fourth)) tt)
    (cases_eq (i % 4) 2))
    (cases_eq (i % 4) 3)

pub twins_kept : (size : ℕ) (placed : List Placed) (strips : List Strip) → AreMade size placed → strips ≡ map (λ p. p.strip) placed → KeepsTwins strips
twins_kept size placed strips made e i h =
    let count = length-strips size placed strips made e in
    let here = strip_in-made size placed strips made e i no_strip (omega arith) in
    subst (λ twin. IfSome twin (IsTwinOf strips i)) (sym here.twin)
    (IfSome_then (twin_of size i) (twin_of-mutual size i (omega arith))
    (λ j in_turn.
    let other = strip_in-made size placed strips made e j no_strip in_turn.there in
    record {
      there = omega (arith, in_turn.there);
      other = in_turn.other;
      in_turn = other.twin ∙ in_turn.in_turn;
      same_request = other.request ∙ in_turn.same_request ∙ sym here.request;
    }))
