-- Each move keeps the rule of a queue of ids, and what a lone pass learns from it.
use Rattle.std.proofs.Common.{◌≡◌, ◌≤◌, ◌+◌, ℕ, List, [], ◌∷◌, ◌++◌, length, set, sum_by, refl, sym, ap, ◌∙◌, arith}
use Rattle.std.proofs.lemmas.List.{length-append}
use Rattle.std.proofs.lemmas.List.Elements.{All-nil, All-cons, All-set, All-push}
use Rattle.std.proofs.lemmas.List.Sums.{sum_by-cons, sum_by_push}
use Rattle.crossbeam_queue.specs.Fifo.{Pushes, Pops, Forks, Merges, Learns}
use Rattle.board.specs.Queues.{Balanced, IsQuiet, IsKnown, first_hand, spent_hand, with_push, with_id, kept_hand, new_hand, joined_hand}
use Rattle.board.specs.declared.queue.Hand.{Hand}
use Rattle.bucket.specs.declared.id.Id.{Id}
use Rattle.pass_weight.proofs.Totals.{sum_set, sum_stays, sum_alone}

abbrev weight : Hand → ℕ
weight h = h.weight

abbrev pushed : Hand → ℕ
pushed h = h.pushes

abbrev given : Hand → ℕ
given h = length h.ids

pub opens : Balanced [] (first_hand ∷ [])
opens = record {
  weights = omega (arith, sum_by-cons weight first_hand []);
  counts = omega (arith, sum_by-cons pushed first_hand [], sum_by-cons given first_hand []);
  idle = All-cons IsQuiet first_hand [] (λ none. (refl, refl)) (All-nil IsQuiet);
}

pub pushes : (n k : ℕ) (v : Hand) (x : Id) → 1 ≤ v.weight → Pushes Balanced n k v x (λ w. w ≡ with_push v)
pushes n k v x some_weight items hands room b at =
    let w : Hand = with_push v in (
      w,
      record {
        weights = sum_stays weight hands k v w at refl ∙ b.weights;
        counts =
            (let s = sum_set pushed hands k v w at in
            let t = sum_stays given hands k v w at refl in
            let c = b.counts in
            omega (arith, length-append items (x ∷ [])));
        idle = All-set IsQuiet hands k w (λ none. absurd (omega arith)) b.idle;
      },
      refl,
    )

pub gives : (k : ℕ) (v : Hand) → 1 ≤ v.weight → Pops Balanced k v (λ x w. w ≡ with_id v x)
gives k v some_weight x items hands b at =
    let w : Hand = with_id v x in (
      w,
      record {
        weights = sum_stays weight hands k v w at refl ∙ b.weights;
        counts =
            (let s = sum_stays pushed hands k v w at refl in
            let t = sum_set given hands k v w at in
            let c = b.counts in
            omega (arith, length-append v.ids (x ∷ [])));
        idle = All-set IsQuiet hands k w (λ none. absurd (omega arith)) b.idle;
      },
      refl,
    )

-- a sum over the hands after a split
split_sum : (f : Hand → ℕ) (hands : List Hand) (k : ℕ) (v l r : Hand) → sum_by f (set hands k l) + f v ≡ sum_by f hands + f l
    → sum_by f (set hands k l ++ r ∷ []) + f v ≡ sum_by f hands + (f l + f r)
split_sum f hands k v l r e = omega (arith, sum_by_push f (set hands k l) r)

pub forks : (k : ℕ) (v : Hand) → 2 ≤ v.weight → Forks Balanced k v (kept_hand v) (new_hand v)
forks k v heavy items hands b at =
    let l : Hand = kept_hand v in
    let r : Hand = new_hand v in
    record {
      weights = (let s = split_sum weight hands k v l r (sum_set weight hands k v l at) in let w = b.weights in omega arith);
      counts =
          (let s = split_sum pushed hands k v l r (sum_set pushed hands k v l at) in
          let t = split_sum given hands k v l r (sum_set given hands k v l at) in
          let c = b.counts in
          omega arith);
      idle = All-push IsQuiet (set hands k l) r (All-set IsQuiet hands k l (λ none. absurd (omega arith)) b.idle) (λ none. (refl, refl));
    }

pub merges : (k : ℕ) (v : Hand) (other : ℕ) (u : Hand) → 1 ≤ v.weight → Merges Balanced k v other u (joined_hand v u) spent_hand
merges k v other u some_weight items hands b at two at' =
    let both : Hand = joined_hand v u in
    record {
      weights =
          (let s = sum_set weight hands k v both at in
          let t = sum_set weight (set hands k both) other u spent_hand at' in
          let w = b.weights in
          omega arith);
      counts =
          (let s = sum_set pushed hands k v both at in
          let t = sum_set pushed (set hands k both) other u spent_hand at' in
          let s' = sum_set given hands k v both at in
          let t' = sum_set given (set hands k both) other u spent_hand at' in
          let c = b.counts in
          omega (arith, length-append v.ids u.ids));
      idle = All-set IsQuiet (set hands k both) other spent_hand (λ none. (refl, refl)) (All-set IsQuiet hands k both (λ none. absurd (omega arith)) b.idle);
    }

pub learns : (k : ℕ) (v : Hand) → Learns Balanced k v (IsKnown v)
learns k v items hands b at whole =
    let s = sum_alone weight pushed hands k v spent_hand at refl refl (b.weights ∙ sym whole) (λ j d h none. (b.idle j d h none).0) in
    let t = sum_alone weight given hands k v spent_hand at refl refl (b.weights ∙ sym whole) (λ j d h none. ap length (b.idle j d h none).1) in
    let c = b.counts in
    omega arith
