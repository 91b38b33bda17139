-- Which labels an insertion makes live, and which die.
use Rattle.std.proofs.Common.{ℕ, List, [], ◌∷◌, ◌++◌, ap, ◌∙◌, arith}
use Rattle.bucket.proofs.Fronts.{Turns}
use Rattle.bucket.proofs.Leaving.{length-left, same-left, was-left, new-left, path-left}
use Rattle.bucket.proofs.Retired.{IsLive-retired}
use Rattle.bucket.specs.Buckets.{retirements}
use Rattle.bucket.specs.Histories.{after_all}
use Rattle.label_list.proofs.Labels.{IsLive-old}
use Rattle.label_list.specs.Labels.{Held, path_of}
use Rattle.label_list.specs.declared.state.State.TheVariants.{Waiting}

-- a label is inserted, and then the named ones are retired
pub Turns-retired : (hs : List Held) (path : List ℕ) (by : ℕ) (ids : List ℕ)
    → Turns hs (after_all (hs ++ record { path = path; state = Waiting } ∷ []) (retirements by ids)) path ids
Turns-retired hs path by ids =
    let gs : List Held = after_all (hs ++ record { path = path; state = Waiting } ∷ []) (retirements by ids) in
    let size = length-left hs path by ids in
    record {
      longer = omega arith;
      same = same-left hs path by ids;
      stays = λ k live fine.
          IsLive-retired (hs ++ record { path = path; state = Waiting } ∷ []) by ids k fine (IsLive-old hs (record { path = path; state = Waiting }) k live);
      was = was-left hs path by ids;
      new = λ k past live. ap (λ (j : ℕ). path_of gs j) (new-left hs path by ids k past live).0 ∙ path-left hs path by ids;
    }
