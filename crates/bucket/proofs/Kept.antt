-- What a bucket keeps, however its labels change.
use Rattle.std.proofs.Common.{◌≡◌, ◌≢◌, ℕ, ◌+◌, ◌*◌, ◌<◌, ◌≤◌, inl, inr, true, List, [], length, get_or, set, sym, ap, ◌∙◌, subst, arith}
use Rattle.std.proofs.lemmas.Bool.{cases_eq, false≢true}
use Rattle.std.proofs.lemmas.List.{get_or-set_other, get_or-set_same, length-set}
use Rattle.antichain.specs.Antichains.{Row}
use Rattle.bucket.proofs.Fronts.{Turns, IsFront-other}
use Rattle.bucket.specs.Fronts.{IsFront, HasFronts}
use Rattle.bucket.specs.declared.limits.TheConstants.{BUCKETS, FRONTS}
use Rattle.label_list.specs.Labels.{Held, IsLive, last_of, path_of}
use Rattle.strip_model.specs.Directed.{has}
use Rattle.strip_model.specs.Side.{Face}

abbrev pub no_row : Row
no_row = record { members = []; room = 0 }

-- the antichains where no label died, and none that is new is live
pub HasFronts-same : (S : Face) (n : ℕ) (hs gs : List Held) (path : List ℕ) (rows : List Row) → Turns hs gs path []
    → ((k : ℕ) → length hs ≤ k → ¬ IsLive gs k) → HasFronts S n hs rows → HasFronts S n gs rows
HasFronts-same S n hs gs path rows t never h = record {
  size = h.size;
  each = λ p small.
      IsFront-other S hs gs path [] t (p * BUCKETS + n) (get_or rows p no_row).members (h.each p small)
      (λ k live named. absurd (false≢true named)) (λ k past live e. never k past live);
}

-- the antichains where that of x was exchanged, and all that died and what is new and live ends with x
pub HasFronts-set : (S : Face) (n p x : ℕ) (hs gs : List Held) (path gone : List ℕ) (rows : List Row) (row : Row) → Turns hs gs path gone
    → x ≡ p * BUCKETS + n → p < FRONTS → last_of path ≡ x → ((k : ℕ) → IsLive hs k → has k gone ≡ true → last_of (path_of hs k) ≡ x)
    → HasFronts S n hs rows → IsFront S gs x row.members → HasFronts S n gs (set rows p row)
HasFronts-set S n p x hs gs path gone rows row t is small ends died h f = record {
  size = length-set rows p row ∙ h.size;
  each = λ r few. elim (cases_eq r p) [
    | inl same ↦
        let here : get_or (set rows p row) r no_row ≡ row
        = ap (λ j. get_or (set rows p row) j no_row) same ∙ get_or-set_same rows p row no_row (let size = h.size in omega arith) in
        rw here (subst (λ (y : ℕ). IsFront S gs y row.members) (is ∙ ap (λ (j : ℕ). j * BUCKETS + n) (sym same)) f)
    | inr differ ↦
        let other : get_or (set rows p row) r no_row ≡ get_or rows r no_row = get_or-set_other rows p r row no_row differ in
        let y : ℕ = r * BUCKETS + n in
        let apart : x ≢ y = λ e. differ (omega arith) in
        rw other (IsFront-other S hs gs path gone t y (get_or rows r no_row).members (h.each r few)
        (λ k live named e. apart (sym (died k live named) ∙ e))
        (λ k past live e. apart (sym ends ∙ sym (ap last_of (t.new k past live)) ∙ e)))
  ];
}
