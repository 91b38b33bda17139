-- Lists of passes of locks that are split one by one.
use Rattle.std.proofs.Common.{◌≡◌, ◌<◌, ◌+◌, ℕ, suc, List, [], ◌∷◌, ◌++◌, length, get_or, set, map, refl, ap, sym, ◌∙◌, arith}
use Rattle.std.proofs.lemmas.List.{length-append, map-append, append-nil}
use Rattle.board.specs.Inside.{Splitting}
use Rattle.board.specs.Passes.{LockPass}
use Rattle.board.specs.Sharing.{lock_kept, lock_split_off}
use Rattle.board.proofs.Seams.{get_seam, set_seam, move_seam}

pub splitting-first : (olds : List LockPass) → Splitting olds olds [] 0
splitting-first olds = record { done = []; left = olds; olds_are = refl; news_are = refl; made_are = refl; count = refl }

module _ (olds news made : List LockPass) (n : ℕ) (s : Splitting olds news made n) where
  length-kept : (ps : List LockPass) → length (map lock_kept ps) ≡ length ps
  length-kept [] = refl
  length-kept (p ∷ ps) = ap suc (length-kept ps)

  nothing_left : (left : List LockPass) → s.left ≡ left → length olds ≡ n → left ≡ []
  nothing_left [] is h = refl
  nothing_left (p ∷ left) is h =
      let size = length-append s.done s.left in
      let whole = ap length s.olds_are in
      let some = ap length is in
      let count = s.count in
      absurd (omega arith)

  -- all are done
  pub splitting-all : length olds ≡ n → (news ≡ map lock_kept olds) × (made ≡ map lock_split_off olds)
  splitting-all h =
      let none : s.left ≡ [] = nothing_left s.left refl h in
      let all : olds ≡ s.done = s.olds_are ∙ ap (λ (l : List LockPass). s.done ++ l) none ∙ append-nil s.done in (
        s.news_are ∙ ap (λ (l : List LockPass). map lock_kept s.done ++ l) none ∙ append-nil (map lock_kept s.done) ∙ ap (λ (l : List LockPass). map lock_kept l) (sym all),
        s.made_are ∙ ap (λ (l : List LockPass). map lock_split_off l) (sym all),
      )

  -- what stands at the place is as it was
  same_one : (left : List LockPass) → s.left ≡ left → n < length olds → (d : LockPass) → get_or news n d ≡ get_or olds n d
  same_one [] none h d =
      let size = length-append s.done s.left in
      let whole = ap length s.olds_are in
      let empty = ap length none in
      let count = s.count in
      absurd (omega arith)
  same_one (p ∷ left) is h d =
      let news' : news ≡ map lock_kept s.done ++ p ∷ left = s.news_are ∙ ap (λ (l : List LockPass). map lock_kept s.done ++ l) is in
      let olds' : olds ≡ s.done ++ p ∷ left = s.olds_are ∙ ap (λ (l : List LockPass). s.done ++ l) is in
      ap (λ (l : List LockPass). get_or l n d) news' ∙ get_seam (map lock_kept s.done) p left n d (length-kept s.done ∙ s.count)
      ∙ sym (ap (λ (l : List LockPass). get_or l n d) olds' ∙ get_seam s.done p left n d s.count)

  pub splitting-same : n < length olds → (d : LockPass) → get_or news n d ≡ get_or olds n d
  splitting-same h d = same_one s.left refl h d

  -- one more
  next_one : (left : List LockPass) → s.left ≡ left → n < length olds → (p kept new : LockPass) → get_or olds n p ≡ p → kept ≡ lock_kept p → new ≡ lock_split_off p
      → Splitting olds (set news n kept) (made ++ new ∷ []) (n + 1)
  next_one [] none h p kept new at k_is n_is =
      let size = length-append s.done s.left in
      let whole = ap length s.olds_are in
      let empty = ap length none in
      let count = s.count in
      absurd (omega arith)
  next_one (q ∷ left) is h p kept new at k_is n_is =
      let news' : news ≡ map lock_kept s.done ++ q ∷ left = s.news_are ∙ ap (λ (l : List LockPass). map lock_kept s.done ++ l) is in
      let olds' : olds ≡ s.done ++ q ∷ left = s.olds_are ∙ ap (λ (l : List LockPass). s.done ++ l) is in
      let same : q ≡ p = sym (ap (λ (l : List LockPass). get_or l n p) olds' ∙ get_seam s.done q left n p s.count) ∙ at in
      record {
        done = s.done ++ q ∷ [];
        left = left;
        olds_are = olds' ∙ move_seam s.done q left;
        news_are =
            ap (λ (l : List LockPass). set l n kept) news' ∙ set_seam (map lock_kept s.done) q left n kept (length-kept s.done ∙ s.count)
            ∙ ap (λ (r : LockPass). map lock_kept s.done ++ r ∷ left) (k_is ∙ ap lock_kept (sym same))
            ∙ move_seam (map lock_kept s.done) (lock_kept q) left
            ∙ ap (λ (l : List LockPass). l ++ left) (sym (map-append lock_kept s.done (q ∷ [])));
        made_are =
            ap (λ (l : List LockPass). l ++ new ∷ []) s.made_are
            ∙ ap (λ (r : LockPass). map lock_split_off s.done ++ r ∷ []) (n_is ∙ ap lock_split_off (sym same))
            ∙ sym (map-append lock_split_off s.done (q ∷ []));
        count = (let c = s.count in omega (arith, length-append s.done (q ∷ [])));
      }

  pub splitting-next : n < length olds → (p kept new : LockPass) → get_or olds n p ≡ p → kept ≡ lock_kept p → new ≡ lock_split_off p
      → Splitting olds (set news n kept) (made ++ new ∷ []) (n + 1)
  splitting-next h p kept new at k_is n_is = next_one s.left refl h p kept new at k_is n_is
