-- What the briefs of labels tell of the side that a log's labels are of, whatever names the side.
use Rattle.std.proofs.Common.{◌≡◌, ◌↔◌, ℕ, Bool, List, sym, subst}
use Rattle.std.specs.Prelude.{IsTrue}
use Rattle.label.specs.Briefs.{IsBrief, IsBriefOf}
use Rattle.label.specs.declared.briefs.Brief.{Brief}
use Rattle.strip_model.specs.Dominance.{Dominates}
use Rattle.strip_model.specs.LabelPath.{LabelPath}
use Rattle.strip_model.specs.Reach.{bound}
use Rattle.strip_model.specs.Side.{Face}

-- the brief of a label path of the side is a brief of it
pub brief_at : (F S : Face) (brief : Brief) (path : List ℕ) → F ≡ S → LabelPath S path → IsBriefOf S brief path → IsBrief F brief
brief_at F S brief path same is of = subst (λ (G : Face). IsBrief G brief) (sym same) (path, is, of)

-- two briefs tell which path dominates
pub dominates_at : (F S : Face) (b a : Brief) (pb pa : List ℕ) (answer : Bool) → F ≡ S → LabelPath S pb → LabelPath S pa → IsBriefOf S b pb → IsBriefOf S a pa
    → ((p q : List ℕ) → LabelPath F p → LabelPath F q → IsBriefOf F b p → IsBriefOf F a q → IsTrue answer ↔ Dominates F.instance p q)
    → IsTrue answer ↔ Dominates S.instance pb pa
dominates_at F S b a pb pa answer same lb la bb ba tells =
    let T : Face → Type 0 = λ G. (p q : List ℕ) → LabelPath G p → LabelPath G q → IsBriefOf G b p → IsBriefOf G a q → IsTrue answer ↔ Dominates G.instance p q in
    let here : T S = subst T same tells in
    here pb pa lb la bb ba

-- one tells its path's bound
pub bound_at : (F S : Face) (brief : Brief) (path : List ℕ) (n : ℕ) → F ≡ S → LabelPath S path → IsBriefOf S brief path
    → ((p : List ℕ) → LabelPath F p → IsBriefOf F brief p → n ≡ bound F.instance p) → n ≡ bound S.instance path
bound_at F S brief path n same is of tells =
    let T : Face → Type 0 = λ G. (p : List ℕ) → LabelPath G p → IsBriefOf G brief p → n ≡ bound G.instance p in
    let here : T S = subst T same tells in
    here path is of
