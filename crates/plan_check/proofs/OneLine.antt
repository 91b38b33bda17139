-- At most one line is the first that can't stand.
use Rattle.std.proofs.Common.{◌≡◌, ℕ, zero, suc, ◌≤◌, List, [], ◌∷◌, ◌++◌, length, refl, sym, ◌∙◌, ap, arith}
use Rattle.std.proofs.lemmas.List.{append_assoc}
use Rattle.std.specs.List.{flat_map}
use Rattle.plan_check.proofs.Lines.{same_acquisition, same_count}
use Rattle.plan_check.specs.Refusal.{StandAfter, Stand, IsFirstBadLine}
use Rattle.seq_io.specs.Line.{spelled_line}

-- lines as they are written
abbrev written : List (List (List ℕ)) → List ℕ
written lines = flat_map spelled_line lines

-- the first of lines that stand does so alone
stand_first : (count : ℕ) (line : List (List ℕ)) (lines : List (List (List ℕ))) → StandAfter count (line ∷ lines) → StandAfter count (line ∷ [])
stand_first zero line lines h = (h.0, refl)
stand_first (suc zero) line lines h = (h.0, tt)
stand_first (suc (suc count)) line lines h = (h.0, tt)

-- equal texts of a line and what follows, with the line replaced by an equal one
front_same : (line same other alike : List (List ℕ)) (rest more : List ℕ) → line ≡ same → other ≡ alike
    → spelled_line line ++ rest ≡ spelled_line other ++ more → spelled_line same ++ rest ≡ spelled_line alike ++ more
front_same line same other alike rest more e f h =
    ap (λ (line : List (List ℕ)). spelled_line line ++ rest) (sym e) ∙ h ∙ ap (λ (line : List (List ℕ)). spelled_line line ++ more) f

-- where no further line stands after the one list of lines, the other is no longer
no_longer_after : (count : ℕ) (lines others : List (List (List ℕ))) (rest more : List ℕ) → StandAfter count lines → StandAfter count others
    → ((line : List (List ℕ)) (after : List ℕ) → rest ≡ spelled_line line ++ after → StandAfter count (lines ++ line ∷ []) → ⊥)
    → written lines ++ rest ≡ written others ++ more → length others ≤ length lines
no_longer_after count lines [] rest more hl ho stop e = omega arith
no_longer_after count [] (other ∷ others) rest more hl ho stop e =
    absurd (stop other (written others ++ more) (e ∙ append_assoc (spelled_line other) (written others) more) (stand_first count other others ho))
no_longer_after zero (line ∷ lines) (other ∷ others) rest more hl ho stop e =
    omega (arith, ap (λ (ls : List (List (List ℕ))). length ls) hl.1, ap (λ (ls : List (List (List ℕ))). length ls) ho.1)
no_longer_after (suc count) (line ∷ lines) (other ∷ others) rest more hl ho stop e =
    let fronts = front_same line _ other _ (written lines ++ rest) (written others ++ more) hl.0.2 ho.0.2
    (sym (append_assoc (spelled_line line) (written lines) rest) ∙ e ∙ append_assoc (spelled_line other) (written others) more) in
    let same = same_acquisition hl.0.0 ho.0.0 _ _ hl.0.1 ho.0.1 fronts in
    let tails = no_longer_after count lines others rest more hl.1 ho.1 (λ next after f st. stop next after f (hl.0, st)) same.1 in
    omega arith

no_longer : (lines others : List (List (List ℕ))) (rest more : List ℕ) → Stand lines → Stand others
    → ((line : List (List ℕ)) (after : List ℕ) → rest ≡ spelled_line line ++ after → Stand (lines ++ line ∷ []) → ⊥)
    → written lines ++ rest ≡ written others ++ more → length others ≤ length lines
no_longer lines [] rest more hl ho stop e = omega arith
no_longer [] (other ∷ others) rest more hl ho stop e =
    absurd (stop other (written others ++ more) (e ∙ append_assoc (spelled_line other) (written others) more) (ho.0, ho.1, ho.2, none ho.0))
  where
    none : (count : ℕ) → StandAfter count []
    none zero = tt
    none (suc count) = tt
no_longer (line ∷ lines) (other ∷ others) rest more hl ho stop e =
    let fronts = front_same line _ other _ (written lines ++ rest) (written others ++ more) hl.2 ho.2
    (sym (append_assoc (spelled_line line) (written lines) rest) ∙ e ∙ append_assoc (spelled_line other) (written others) more) in
    let same = same_count hl.0 ho.0 _ _ hl.1 ho.1 fronts in
    let after = rw (sym same.0) at ho.3 in
    let tails = no_longer_after hl.0 lines others rest more hl.3 after (λ next after f st. stop next after f (hl.0, hl.1, hl.2, st)) same.1 in
    omega arith

-- at most one line is the first that can't stand
pub one_first_bad_line : (bytes : List ℕ) (m n : ℕ) → IsFirstBadLine bytes m → IsFirstBadLine bytes n → m ≡ n
one_first_bad_line bytes m n hm hn =
    omega (
      arith,
      hm.number,
      hn.number,
      no_longer hm.lines hn.lines hm.rest hn.rest hm.stand hn.stand hm.stop (sym hm.split ∙ hn.split),
      no_longer hn.lines hm.lines hn.rest hm.rest hn.stand hm.stand hn.stop (sym hn.split ∙ hm.split),
    )
