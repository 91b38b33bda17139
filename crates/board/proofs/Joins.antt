-- Lists of passes of locks that are joined one by one.
use Rattle.std.proofs.Common.{◌≡◌, ◌<◌, ◌+◌, ℕ, suc, List, [], ◌∷◌, ◌++◌, length, get_or, set, refl, ap, sym, ◌∙◌, subst, arith}
use Rattle.std.proofs.lemmas.List.{length-append, get_or_default}
use Rattle.atomic_table.specs.Seated.{TableId}
use Rattle.board.specs.Inside.{names_in, AreIdle, Joining}
use Rattle.board.specs.Passes.{LockPass}
use Rattle.board.specs.Sharing.{AreLocksJoined, IsLockJoined}
use Rattle.board.proofs.Seams.{get_seam, set_seam, move_seam}
use Rattle.strip_model.specs.Side.{Face}

pub joined-snoc : (ps qs rs : List LockPass) (p q r : LockPass) → AreLocksJoined ps qs rs → IsLockJoined p q r
    → AreLocksJoined (ps ++ p ∷ []) (qs ++ q ∷ []) (rs ++ r ∷ [])
joined-snoc [] [] [] p q r all one = (one, tt)
joined-snoc [] [] (z ∷ rs) p q r all one = absurd all
joined-snoc [] (y ∷ qs) rs p q r all one = absurd all
joined-snoc (x ∷ ps) [] rs p q r all one = absurd all
joined-snoc (x ∷ ps) (y ∷ qs) [] p q r all one = absurd all
joined-snoc (x ∷ ps) (y ∷ qs) (z ∷ rs) p q r all one = (all.0, joined-snoc ps qs rs p q r all.1 one)

pub joined-length : (ps qs rs : List LockPass) → AreLocksJoined ps qs rs → (length qs ≡ length ps) × (length rs ≡ length ps)
joined-length [] [] [] all = (refl, refl)
joined-length [] [] (z ∷ rs) all = absurd all
joined-length [] (y ∷ qs) rs all = absurd all
joined-length (x ∷ ps) [] rs all = absurd all
joined-length (x ∷ ps) (y ∷ qs) [] all = absurd all
joined-length (x ∷ ps) (y ∷ qs) (z ∷ rs) all = let h = joined-length ps qs rs all.1 in (ap suc h.0, ap suc h.1)

pub joined-names : (ps qs rs : List LockPass) → AreLocksJoined ps qs rs → names_in rs ≡ names_in ps
joined-names [] [] [] all = refl
joined-names [] [] (z ∷ rs) all = absurd all
joined-names [] (y ∷ qs) rs all = absurd all
joined-names (x ∷ ps) [] rs all = absurd all
joined-names (x ∷ ps) (y ∷ qs) [] all = absurd all
joined-names (x ∷ ps) (y ∷ qs) (z ∷ rs) all =
    let lock : z.lock ≡ x.lock = ap (λ (p : LockPass). p.lock) all.0.others in
    ap (λ (t : TableId). t ∷ names_in rs) lock ∙ ap (λ (l : List TableId). x.lock ∷ l) (joined-names ps qs rs all.1)

pub joined-idle : (S : Face) (v w i : ℕ) (ps qs rs : List LockPass) → AreLocksJoined ps qs rs → AreIdle S i v ps → AreIdle S i w qs → AreIdle S i (v + w) rs
joined-idle S v w i [] [] [] all one two = tt
joined-idle S v w i [] [] (z ∷ rs) all one two = absurd all
joined-idle S v w i [] (y ∷ qs) rs all one two = absurd all
joined-idle S v w i (x ∷ ps) [] rs all one two = absurd all
joined-idle S v w i (x ∷ ps) (y ∷ qs) [] all one two = absurd all
joined-idle S v w i (x ∷ ps) (y ∷ qs) (z ∷ rs) all one two =
    let is = all.0.others in (
      record {
        frame = ap (λ (p : LockPass). p.frame) is ∙ one.0.frame;
        turn = ap (λ (p : LockPass). p.turn) is ∙ one.0.turn;
        weighs = (let a = ap (λ (p : LockPass). p.weight) is in let b = one.0.weighs in let c = two.0.weighs in omega arith);
      },
      joined-idle S v w (i + 1) ps qs rs all.1 one.1 two.1,
    )

pub joining-first : (olds others : List LockPass) → Joining olds others olds others 0
joining-first olds others = record {
  done = [];
  done_others = [];
  done_news = [];
  left = olds;
  olds_are = refl;
  others_are = refl;
  news_are = refl;
  joined = tt;
  count = refl;
}

-- one more
module _ (olds others news rest : List LockPass) (n : ℕ) (q : LockPass) (j : Joining olds others news (q ∷ rest) n) where
  -- what stands at the place is as it was, with the first of what is left
  joining_one : (left : List LockPass) → j.left ≡ left → n < length olds → (r : LockPass)
      → ((p : LockPass) → get_or news n p ≡ p → get_or olds n p ≡ p → IsLockJoined p q r)
      → Joining olds others (set news n r) rest (n + 1)
  joining_one [] none h r step =
      let size = length-append j.done j.left in
      let whole = ap length j.olds_are in
      let empty = ap length none in
      let count = j.count in
      absurd (omega arith)
  joining_one (p ∷ left) is h r step =
      let news' : news ≡ j.done_news ++ p ∷ left = j.news_are ∙ ap (λ (l : List LockPass). j.done_news ++ l) is in
      let olds' : olds ≡ j.done ++ p ∷ left = j.olds_are ∙ ap (λ (l : List LockPass). j.done ++ l) is in
      let size : length j.done_news ≡ n = (joined-length j.done j.done_others j.done_news j.joined).1 ∙ j.count in
      let one = step p (ap (λ (l : List LockPass). get_or l n p) news' ∙ get_seam j.done_news p left n p size)
      (ap (λ (l : List LockPass). get_or l n p) olds' ∙ get_seam j.done p left n p j.count) in
      record {
        done = j.done ++ p ∷ [];
        done_others = j.done_others ++ q ∷ [];
        done_news = j.done_news ++ r ∷ [];
        left = left;
        olds_are = olds' ∙ move_seam j.done p left;
        others_are = j.others_are ∙ move_seam j.done_others q rest;
        news_are = ap (λ (l : List LockPass). set l n r) news' ∙ set_seam j.done_news p left n r size ∙ move_seam j.done_news r left;
        joined = joined-snoc j.done j.done_others j.done_news p q r j.joined one;
        count = (let c = j.count in omega (arith, length-append j.done (p ∷ [])));
      }

  pub joining-next : n < length olds → (r : LockPass) → ((p : LockPass) → get_or news n p ≡ p → get_or olds n p ≡ p → IsLockJoined p q r)
      → Joining olds others (set news n r) rest (n + 1)
  joining-next h r step = joining_one j.left refl h r step

-- what is known of the place that comes next
module _ (olds others news rest : List LockPass) (n : ℕ) (j : Joining olds others news rest n) where
  pub joining-length : length news ≡ length olds
  joining-length =
      let size = (joined-length j.done j.done_others j.done_news j.joined).1 in
      let a = ap length j.news_are in
      let b = ap length j.olds_are in
      omega (arith, length-append j.done_news j.left, length-append j.done j.left)

  same_one : (left : List LockPass) → j.left ≡ left → n < length olds → (d : LockPass) → get_or news n d ≡ get_or olds n d
  same_one [] none h d =
      let size = length-append j.done j.left in
      let whole = ap length j.olds_are in
      let empty = ap length none in
      let count = j.count in
      absurd (omega arith)
  same_one (p ∷ left) is h d =
      let news' : news ≡ j.done_news ++ p ∷ left = j.news_are ∙ ap (λ (l : List LockPass). j.done_news ++ l) is in
      let olds' : olds ≡ j.done ++ p ∷ left = j.olds_are ∙ ap (λ (l : List LockPass). j.done ++ l) is in
      let size : length j.done_news ≡ n = (joined-length j.done j.done_others j.done_news j.joined).1 ∙ j.count in
      ap (λ (l : List LockPass). get_or l n d) news' ∙ get_seam j.done_news p left n d size
      ∙ sym (ap (λ (l : List LockPass). get_or l n d) olds' ∙ get_seam j.done p left n d j.count)

  pub joining-same : n < length olds → (d : LockPass) → get_or news n d ≡ get_or olds n d
  joining-same h d = same_one j.left refl h d

  -- the next of the others
  pub joining-other : (q : LockPass) (rest' : List LockPass) → rest ≡ q ∷ rest' → (d : LockPass) → (get_or others n d ≡ q) × (n < length others)
  joining-other q rest' is d =
      let all : others ≡ j.done_others ++ q ∷ rest' = j.others_are ∙ ap (λ (l : List LockPass). j.done_others ++ l) is in
      let size : length j.done_others ≡ n = (joined-length j.done j.done_others j.done_news j.joined).0 ∙ j.count in (
        ap (λ (l : List LockPass). get_or l n d) all ∙ get_seam j.done_others q rest' n d size,
        (let whole = ap length all in omega (arith, length-append j.done_others (q ∷ rest'))),
      )

-- one more, where the rest is what an iterator still gives
pub joining-step : (olds others news rest rest' : List LockPass) (n : ℕ) (p q r : LockPass) → Joining olds others news rest n → rest ≡ q ∷ rest' → n < length olds
    → p ≡ get_or news n p → IsLockJoined p q r → Joining olds others (set news n r) rest' (n + 1)
joining-step olds others news rest rest' n p q r j is small at one =
    let j' = subst (λ (l : List LockPass). Joining olds others news l n) is j in
    let long = joining-length olds others news rest n j in
    joining-next olds others news rest' n q j' small r
    (λ x here old. subst (λ (y : LockPass). IsLockJoined y q r) (at ∙ get_or_default news n p x (omega arith) ∙ here) one)
