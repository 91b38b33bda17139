-- Things drawn one after another: none, one more, how many, and what each is.
use Rattle.std.proofs.Common.{◌≡◌, ℕ, zero, suc, ◌+◌, ◌<◌, List, [], ◌∷◌, ◌++◌, length, get_or, refl, sym, ◌∙◌, ap, subst, ⊎_elim, arith, add-one}
use Rattle.std.proofs.lemmas.List.{length_push, get_or_push, get_or_append_left}
use Rattle.std.proofs.lemmas.Bool.{cases_lt}
use Rattle.inst_maker.specs.Draws.{Draw, in_order}

pub value-in_order_none : {A : Type 0} (f : ℕ → Draw A) (s : ℕ) → (in_order f 0 s).value ≡ []
unfolding in_order
value-in_order_none f s = refl

pub state-in_order_none : {A : Type 0} (f : ℕ → Draw A) (s : ℕ) → (in_order f 0 s).state ≡ s
unfolding in_order
state-in_order_none f s = refl

pub value-in_order_more : {A : Type 0} (f : ℕ → Draw A) (n s : ℕ) → (in_order f (n + 1) s).value ≡ (in_order f n s).value ++ (f n (in_order f n s).state).value ∷ []
unfolding in_order
value-in_order_more f n s = rw add-one refl

pub state-in_order_more : {A : Type 0} (f : ℕ → Draw A) (n s : ℕ) → (in_order f (n + 1) s).state ≡ (f n (in_order f n s).state).state
unfolding in_order
state-in_order_more f n s = rw add-one refl

pub ruleset steps = (value-in_order_none, state-in_order_none, value-in_order_more, state-in_order_more)

pub length-in_order : {A : Type 0} (f : ℕ → Draw A) (n s : ℕ) → length (in_order f n s).value ≡ n
unfolding in_order
length-in_order f zero s = refl
length-in_order f (suc n) s =
    length_push (in_order f n s).value (f n (in_order f n s).state).value ∙ ap (λ (k : ℕ). k + 1) (length-in_order f n s) ∙ add-one n

-- what holds of each thing that f draws, at whichever state, holds of each in the list
pub each_in_order : {A : Type 0} (f : ℕ → Draw A) (P : ℕ → A → Type 0) (n : ℕ) → ((k t : ℕ) → k < n → P k (f k t).value)
    → (s k : ℕ) (d : A) → k < n → P k (get_or (in_order f n s).value k d)
unfolding in_order
each_in_order f P zero each s k d h = absurd (omega arith)
each_in_order {A} f P (suc n) each s k d h =
    let earlier : List A = (in_order f n s).value in
    let last : A = (f n (in_order f n s).state).value in
    ⊎_elim
    (λ below. subst (P k) (sym (get_or_append_left earlier (last ∷ []) d k (omega (arith, length-in_order f n s))))
    (each_in_order f P n (λ k t l. each k t (omega arith)) s k d below))
    (λ above.
    let here : n ≡ k = omega arith in
    subst (λ (k : ℕ). P k (get_or (earlier ++ last ∷ []) k d)) here
    (subst (P n) (sym (get_or_push earlier last d n (length-in_order f n s))) (each n (in_order f n s).state (omega arith))))
    (cases_lt k n)
